-- What a program that was linked and verified has.
use Rattle.frame_laws.specs.Worlds.{IsVerified}
use Rattle.start_laws.proofs.Started as started
use Rattle.world_model.specs.World.{World}
use Rattle.linked_world_laws.proofs.Beginning.{first_methods_can_begin}
use Rattle.linked_world_laws.proofs.BootThere.{boot_classes_are_there}
use Rattle.linked_world_laws.proofs.Constants.{statics_start_declared, strings_are_for_strings}
use Rattle.linked_world_laws.proofs.Orders.{world_is_orderly}
use Rattle.linked_world_laws.proofs.RightCode.{code_stands_right, frames_are_small}
use Rattle.linked_world_laws.proofs.StringsAlone.{strings_stand_alone, fields_have_types}
use Rattle.linked_world_laws.proofs.UsesThere.{instructions_use_what_is_there}
use Rattle.program_laws.specs.Laws.{VerifiedIsRunnable, VerifiedIsStartable, VerifiedConforms, VerifiedGoesOn}
use Rattle.program_laws.specs.Verified.{IsVerifiedWorld}
use Rattle.program_laws.proofs.Typed.{none_fails, frame_makes_objects}

verified : (world : World) → IsVerifiedWorld world → IsVerified world
verified world is = record {
  orderly = world_is_orderly world is.linked;
  typed = λ name class m descriptor method e there declared environment. none_fails world is.well_typed name class m descriptor method there declared;
  right = code_stands_right world is.linked;
}

pub verified_is_runnable : VerifiedIsRunnable
verified_is_runnable world is =
    let boot = boot_classes_are_there world is.linked in
    record {
      verified = verified world is;
      frames_fit = frames_are_small world is.linked;
      throwables = boot.throwables;
      throwable = boot.throwable;
      throwable_class = boot.throwable_class;
      strings = boot.strings;
      strings_alone = strings_stand_alone world is.linked;
      fields = λ name present. fields_have_types world is.linked name;
      uses = λ frame e pc placed environment at.
          instructions_use_what_is_there world is.linked frame e pc placed environment at
          (frame_makes_objects world (verified world is) frame e pc placed environment at);
    }

pub verified_is_startable : VerifiedIsStartable
verified_is_startable program is =
    let boot = boot_classes_are_there program.world is.verified.linked in
    record {
      runnable = verified_is_runnable program.world is.verified;
      methods = first_methods_can_begin program is.verified.linked is.main;
      statics = statics_start_declared program.world is.verified.linked;
      strings = strings_are_for_strings program.world is.verified.linked;
      stream = boot.stream;
      stream_fields = boot.stream_fields;
      room = is.room;
    }

pub verified_conforms : VerifiedConforms
verified_conforms program entries end is = started.started_conforms program entries end (verified_is_startable program is)

pub verified_goes_on : VerifiedGoesOn
verified_goes_on program entries end is = started.started_goes_on program entries end (verified_is_startable program is)
