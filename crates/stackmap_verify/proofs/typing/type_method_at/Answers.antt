use Rattle.std.proofs.Common.{ap, sym, ◌∙◌, arith}
use Rattle.std.proofs.lemmas.Option.{slice_get_within}
use Rattle.link_model.specs.WorldOf.{class_of}
use Rattle.jv_types.specs.Loaded.{loaded_of}
use Rattle.class_world.specs.World.{names_of, class_of_origin}
use Rattle.stackmap_verify.proofs.Members.{member_count, class_read, class_held}
use Rattle.stackmap_verify.proofs.MethodFrames.{has_method, boot_code, codeless}
use Rattle.stackmap_verify.proofs.typing.type_method_at.Goals as goal

pub returns-in-Boot : goal.returns-in-Boot
returns-in-Boot g c =
    let w = c.args.world.now in
    let told = c.class-class.ensures in
    let it = has_method w c.args.method told.0 c.requires.method told.1 in
    let none = boot_code (names_of w) c.in-Boot.field-0 told.0 c.args.method.index it.0
    (ap (class_of_origin (names_of w)) (sym c.in-Boot.is) ∙ told.2.origin) it.1 in
    record { class = told.0; is_class = told.1; method = it.0; is_method = it.1; types = codeless w told.0 it.0 c.new.result.items none c.new.ensures }

pub type_method-requires-clause-class : goal.type_method-requires-clause-class
type_method-requires-clause-class g c =
    class_held c.args.world.now c.in-Program.loaded c.class-class.result.now c.args.method.class.0 c.class-class.ensures c.in-Program.is

pub type_method-requires-clause-index : goal.type_method-requires-clause-index
type_method-requires-clause-index g c =
    let w = c.args.world.now in
    let loaded = c.in-Program.loaded in
    let class = class_of (loaded_of loaded) in
    let at = class_read w loaded c.class-class.result.now c.args.method.class.0 c.class-class.ensures c.in-Program.is in
    let it = has_method w c.args.method class c.requires.method at in
    omega (arith, slice_get_within class.methods c.args.method.index it.0 it.1, member_count loaded)

pub returns : goal.returns
returns g c =
    let w = c.args.world.now in
    let loaded = c.in-Program.loaded in
    let at = class_read w loaded c.class-class.result.now c.args.method.class.0 c.class-class.ensures c.in-Program.is in
    let told = c.type_method.ensures in
    record { class = class_of (loaded_of loaded); is_class = at; method = told.0; is_method = told.1; types = told.2 }
