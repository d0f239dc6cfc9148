-- A well typed straight line finds its operands (JVMS 4.10.1).
use Rattle.std.proofs.Common.{◌≡◌, ℕ, ◌+◌, Bool, true, false, ◌&&◌, ◌||◌, cond, eqb, leb, List, [], ◌∷◌, ◌++◌, length, Option, Some, None, is_some, option_map, if◌then◌else◌, refl, sym, ap, subst, ◌∙◌, inl, inr, arith}
use Rattle.std.specs.Prelude.{bytes_eq, codes}
use Rattle.std.specs.List.{AllByRecursion, find}
use Rattle.std.proofs.Math.Dec.{eqb-suc-zero}
use Rattle.std.proofs.lemmas.Bool.{leb-true, le-leb}
use Rattle.std.proofs.lemmas.Slice.Eq.{bytes_eq-Decides}
use Rattle.jv_model.specs.Code as code
use Rattle.jv_model.specs.Descriptors as descriptors
use Rattle.jv_model.specs.Flow.{goes_on}
use Rattle.jv_model.specs.Instruction as methods
use Rattle.jv_model.specs.Operand.{Operand, class_named, member_named, int_constant, long_constant, string_constant}
use Rattle.jv_model.specs.Partial.{◌>>=◌}
use Rattle.world_model.specs.World.{World, Class, Method, declared_method}
use Rattle.world_model.specs.BootNames.{is_constructor_name, is_initializer_name}
use Rattle.code_model.specs.TypeReading.{are_parts, before_semicolon, type_at, dimensions, parameters_within, field_type_of, method_type_of}
use Rattle.typing_model.specs.Assignable.{locals_assignable, stack_assignable}
use Rattle.typing_model.specs.CallTypes.{are_arguments, results, selected_called}
use Rattle.typing_model.specs.DescriptorFrame.{descriptor_frame}
use Rattle.typing_model.specs.Environment.{Environment, environment_of}
use Rattle.typing_model.specs.FailingPlace.{visits_from, visits, first_place, failing_place}
use Rattle.typing_model.specs.InstructionTypes.{type_step}
use Rattle.typing_model.specs.MemberTypes.{static_got}
use Rattle.typing_model.specs.Rules.{Visit, frame_of, flow_behind, first_failing}
use Rattle.typing_model.specs.StackTypes.{group, stack_formed}
use Rattle.typing_model.specs.Transition.{Test, to, below, pushed, changed}
use Rattle.typing_model.specs.VerificationType.{VerificationType, top, int, long, null, this, new_at, class, array, TypeFrame, type_of, is_int, words_of}
use Rattle.typing_laws.specs.Instructions.{Applies}
use Rattle.typing_laws.proofs.Frames.{some-inj, visit_of}
use Rattle.typing_laws.proofs.Passes.{Framed, framed, has-frame}
use Rattle.typing_laws.proofs.Instructions.{applied, joined}
use Rattle.frame_laws.proofs.Outcome.{bind_is, map_is, changed_is, pushed_is, when_is}
use Rattle.straight_line_model.specs.Instruction.{Instruction, constant, arithmetic, negate, pop, get_out, print_line, Placed, Body}
use Rattle.straight_line_model.specs.IntOperation.{IntOperation}
use Rattle.straight_line_model.specs.OperandStack.{ValueType, int_type, print_stream_type}
use Rattle.straight_line_model.specs.StraightLine.{types_after, is_return, is_straight, FollowEachOther, IsStraightLine}
use Rattle.run_model.specs.Later.{code_of_main, main_code}
use Rattle.run_model.specs.MainCode.{is_out, is_println, operation_of, integer_of, instruction_of, instructions_of, up_to_return, numbered_from, with_instructions, straight_body}
use Rattle.straight_line.specs.Programs.{AreVerified}
use Rattle.straight_line.proofs.Operands.{Fit, no_more_values, int_wanted, class_wanted, stack_goes}

both_hold : (a b : Bool) → (a && b) ≡ true → (a ≡ true) × (b ≡ true)
both_hold true b is = (refl, is)
both_hold false b is = absurd cc

-- What an instruction does with operands of these types, by what the verifier makes of their types.
pub record IsTyped (e : Environment) (values : List ValueType) (here : Instruction)
    (after : TypeFrame) : Type 0 where
  pub types : List ValueType
  pub is : types_after here values ≡ Some types
  pub fit : Fit types after.stack
  pub short : leb (length types) e.body.max_stack ≡ true

module _ (e : Environment) where
  -- what was pushed has room, and so have the values
  typed : (types : List VerificationType) (before after : TypeFrame) (here : Instruction)
      (values others : List ValueType) → types_after here values ≡ Some others
      → pushed e types before ≡ Some after → Fit others (types ++ before.stack)
      → IsTyped e values here after
  typed types before after here values others goes is fit =
      let room = pushed_is e types before after is in
      let words = leb-true (words_of (types ++ before.stack)) e.body.max_stack room.0 in
      record {
        types = others;
        is = goes;
        fit = subst (λ (frame : TypeFrame). Fit others frame.stack) room.1 fit;
        short = le-leb (length others) e.body.max_stack
            (omega (arith, words, no_more_values others (types ++ before.stack) fit));
      }

  -- ---- operands that are taken

  -- an int is on top, and these are below it
  record TopIsInt (tests : List Test) (rest : List VerificationType) (values : List ValueType)
      : Type 0 where
    others : List ValueType
    types : List VerificationType
    are : values ≡ int_type ∷ others
    fit : Fit others types
    left : below tests types ≡ Some rest

  takes_int : (test : Test) (tests : List Test) (stack rest : List VerificationType)
      (values : List ValueType)
      → ((type : VerificationType) → test type ≡ true → is_int type ≡ true)
      → below (test ∷ tests) stack ≡ Some rest → Fit values stack → TopIsInt tests rest values
  unfolding below
  takes_int test tests [] rest values wants is fit = absurd cc
  takes_int test tests (type ∷ types) rest [] wants is fit = absurd fit
  takes_int test tests (type ∷ types) rest (int_type ∷ others) wants is fit =
      let taken = when_is (test type) (below tests types) rest is in
      record { others = others; types = types; are = refl; fit = fit.1; left = taken.1 }
  takes_int test tests (type ∷ types) rest (print_stream_type ∷ others) wants is fit =
      let taken = when_is (test type) (below tests types) rest is in
      let int = wants type taken.0 in absurd (let no = rw int at fit.0 in cc)

  takes_stream : (name : List ℕ) (stack rest : List VerificationType) (values : List ValueType)
      → below (to e (class name) ∷ []) stack ≡ Some rest → Fit values stack
      → (others : List ValueType) × (values ≡ print_stream_type ∷ others) × Fit others rest
  unfolding below
  takes_stream name [] rest values is fit = absurd cc
  takes_stream name (type ∷ types) rest [] is fit = absurd fit
  takes_stream name (type ∷ types) rest (int_type ∷ others) is fit =
      let taken = when_is (to e (class name) type) (Some types) rest is in
      absurd (let no = class_wanted e.world type name taken.0 in let yes = fit.0 in cc)
  takes_stream name (type ∷ types) rest (print_stream_type ∷ others) is fit =
      let taken = when_is (to e (class name) type) (Some types) rest is in
      (others, refl, subst (Fit others) (some-inj taken.1) fit.1)

  -- ---- instructions

  constant_typed : (value : _) (frame after : TypeFrame) (values : List ValueType)
      → pushed e (int ∷ []) frame ≡ Some after → Fit values frame.stack
      → IsTyped e values (constant value) after
  constant_typed value frame after values is fit =
      typed (int ∷ []) frame after (constant value) values (int_type ∷ values) refl is (refl, fit)

  arithmetic_typed : (operation : IntOperation) (frame after : TypeFrame) (values : List ValueType)
      → changed e (is_int ∷ is_int ∷ []) (int ∷ []) frame ≡ Some after → Fit values frame.stack
      → IsTyped e values (arithmetic operation) after
  unfolding below
  arithmetic_typed operation frame after values is fit =
      let parts = changed_is e (is_int ∷ is_int ∷ []) (int ∷ []) frame after is in
      let once = takes_int is_int (is_int ∷ []) frame.stack parts.0 values (λ type is. is) parts.1 fit in
      let twice = takes_int is_int [] once.types parts.0 once.others (λ type is. is) once.left once.fit in
      let all : values ≡ int_type ∷ int_type ∷ twice.others =
      once.are ∙ ap (λ others. int_type ∷ others) twice.are in
      typed (int ∷ []) (record frame { stack = parts.0 }) after (arithmetic operation) values
      (int_type ∷ twice.others) (ap (types_after (arithmetic operation)) all) parts.2
      (refl, subst (Fit twice.others) (some-inj twice.left) twice.fit)

  negate_typed : (frame after : TypeFrame) (values : List ValueType)
      → changed e (is_int ∷ []) (int ∷ []) frame ≡ Some after → Fit values frame.stack
      → IsTyped e values negate after
  unfolding below
  negate_typed frame after values is fit =
      let parts = changed_is e (is_int ∷ []) (int ∷ []) frame after is in
      let once = takes_int is_int [] frame.stack parts.0 values (λ type is. is) parts.1 fit in
      typed (int ∷ []) (record frame { stack = parts.0 }) after negate values
      (int_type ∷ once.others) (ap (types_after negate) once.are) parts.2
      (refl, subst (Fit once.others) (some-inj once.left) once.fit)

  dropped_typed : (locals : List VerificationType) (types : List VerificationType) (after : TypeFrame)
      (value : ValueType) (others : List ValueType)
      → pushed e [] (record { locals = locals; stack = types }) ≡ Some after → Fit others types
      → IsTyped e (value ∷ others) pop after
  dropped_typed locals types after value others is fit =
      typed [] (record { locals = locals; stack = types }) after pop (value ∷ others) others refl is
      fit

  pop_typed : (locals stack : List VerificationType) (after : TypeFrame) (values : List ValueType)
      → stack_formed e methods.pop_one (record { locals = locals; stack = stack }) ≡ Some after
      → Fit values stack → IsTyped e values pop after
  unfolding group
  pop_typed locals [] after values is fit = absurd cc
  pop_typed locals (type ∷ types) after [] is fit = absurd fit
  pop_typed locals (top ∷ types) after (value ∷ others) is fit = absurd cc
  pop_typed locals (long ∷ types) after (value ∷ others) is fit = absurd cc
  pop_typed locals (int ∷ types) after (value ∷ others) is fit =
      dropped_typed locals types after value others is fit.1
  pop_typed locals (null ∷ types) after (value ∷ others) is fit =
      dropped_typed locals types after value others is fit.1
  pop_typed locals (this ∷ types) after (value ∷ others) is fit =
      dropped_typed locals types after value others is fit.1
  pop_typed locals (new_at pc ∷ types) after (value ∷ others) is fit =
      dropped_typed locals types after value others is fit.1
  pop_typed locals (class name ∷ types) after (value ∷ others) is fit =
      dropped_typed locals types after value others is fit.1
  pop_typed locals (array component ∷ types) after (value ∷ others) is fit =
      dropped_typed locals types after value others is fit.1

  -- ---- members by their names

  same_names : (a b : List ℕ) → bytes_eq a b ≡ true → a ≡ b
  same_names a b is = (bytes_eq-Decides a b).0 is

  out_typed : (operand : Operand) (frame after : TypeFrame) (values : List ValueType)
      → is_out operand ≡ true → static_got e operand frame ≡ Some after → Fit values frame.stack
      → IsTyped e values get_out after
  unfolding are_parts before_semicolon type_at dimensions type_of
  out_typed (member_named member) frame after values is step fit =
      let each = both_hold (bytes_eq member.class (codes "java/lang/System")) _ is in
      let descriptor : member.descriptor ≡ codes "Ljava/io/PrintStream;" =
      same_names _ _ (both_hold (bytes_eq member.name (codes "out")) _ each.1).1 in
      let push : pushed e (class (codes "java/io/PrintStream") ∷ []) frame ≡ Some after =
      subst (λ (units : List ℕ). (option_map type_of (field_type_of units)
      >>= λ type. pushed e (type ∷ []) frame) ≡ Some after) descriptor step in
      typed (class (codes "java/io/PrintStream") ∷ []) frame after get_out values
      (print_stream_type ∷ values) refl push (refl, fit)
  out_typed (class_named name) frame after values is step fit = absurd cc
  out_typed (int_constant value) frame after values is step fit = absurd cc
  out_typed (long_constant value) frame after values is step fit = absurd cc
  out_typed (string_constant text) frame after values is step fit = absurd cc

  abbrev call_of : List ℕ → List ℕ → List ℕ → TypeFrame → Option TypeFrame
  call_of owner name descriptor frame =
      method_type_of descriptor >>= λ type.
      if is_constructor_name name || is_initializer_name name then None
      else changed e (are_arguments e type ++ to e (class owner) ∷ []) (results type) frame

  line_typed : (owner : List ℕ) (frame after : TypeFrame) (values : List ValueType)
      → changed e (to e int ∷ to e (class owner) ∷ []) [] frame ≡ Some after → Fit values frame.stack
      → IsTyped e values print_line after
  line_typed owner frame after values is fit =
      let parts = changed_is e (to e int ∷ to e (class owner) ∷ []) [] frame after is in
      let once = takes_int (to e int) (to e (class owner) ∷ []) frame.stack parts.0 values
      (λ type is. int_wanted e.world type is) parts.1 fit in
      let twice = takes_stream owner once.types parts.0 once.others once.left once.fit in
      let all : values ≡ int_type ∷ print_stream_type ∷ twice.0 =
      once.are ∙ ap (λ others. int_type ∷ others) twice.1 in
      typed [] (record frame { stack = parts.0 }) after print_line values twice.0
      (ap (types_after print_line) all) parts.2 twice.2

  println_typed : (operand : Operand) (frame after : TypeFrame) (values : List ValueType)
      → is_println operand ≡ true → selected_called e operand frame ≡ Some after
      → Fit values frame.stack → IsTyped e values print_line after
  unfolding type_at dimensions parameters_within type_of
  println_typed (member_named member) frame after values is step fit =
      let each = both_hold (bytes_eq member.class (codes "java/io/PrintStream")) _ is in
      let both = both_hold (bytes_eq member.name (codes "println")) _ each.1 in
      let name : member.name ≡ codes "println" = same_names _ _ both.0 in
      let descriptor : member.descriptor ≡ codes "(I)V" = same_names _ _ both.1 in
      let called : call_of member.class (codes "println") (codes "(I)V") frame ≡ Some after =
      subst (λ (units : List ℕ). call_of member.class units (codes "(I)V") frame ≡ Some after) name
      (subst (λ (units : List ℕ). call_of member.class member.name units frame ≡ Some after)
      descriptor step) in
      line_typed member.class frame after values called fit
  println_typed (class_named name) frame after values is step fit = absurd cc
  println_typed (int_constant value) frame after values is step fit = absurd cc
  println_typed (long_constant value) frame after values is step fit = absurd cc
  println_typed (string_constant text) frame after values is step fit = absurd cc

  -- ---- one instruction

  of_same : (there here : Instruction) (values : List ValueType) (after : TypeFrame)
      → Some there ≡ Some here → IsTyped e values there after → IsTyped e values here after
  of_same there here values after same typed =
      subst (λ instruction. IsTyped e values instruction after) (some-inj same) typed

  ints_typed : (found : Option IntOperation) (here : Instruction) (frame after : TypeFrame)
      (values : List ValueType) → option_map arithmetic found ≡ Some here
      → changed e (is_int ∷ is_int ∷ []) (int ∷ []) frame ≡ Some after → Fit values frame.stack
      → IsTyped e values here after
  ints_typed None here frame after values run step fit = absurd cc
  ints_typed (Some operation) here frame after values run step fit =
      of_same (arithmetic operation) here values after run
      (arithmetic_typed operation frame after values step fit)

  loaded_typed : (operand : Operand) (here : Instruction) (pc : ℕ) (frame after : TypeFrame)
      (values : List ValueType) → integer_of operand ≡ Some here
      → type_step e pc (methods.ldc operand) frame ≡ Some after → Fit values frame.stack
      → IsTyped e values here after
  unfolding type_step
  loaded_typed (int_constant value) here pc frame after values run step fit =
      of_same (constant value) here values after run
      (constant_typed value frame after values step fit)
  loaded_typed (member_named member) here pc frame after values run step fit = absurd cc
  loaded_typed (class_named name) here pc frame after values run step fit = absurd cc
  loaded_typed (long_constant value) here pc frame after values run step fit = absurd cc
  loaded_typed (string_constant text) here pc frame after values run step fit = absurd cc

  pub instruction_typed : (pc : ℕ) (instruction : methods.Instruction Operand) (here : Instruction)
      (frame after : TypeFrame) (values : List ValueType) → instruction_of instruction ≡ Some here
      → is_return here ≡ false → type_step e pc instruction frame ≡ Some after
      → Fit values frame.stack → IsTyped e values here after
  unfolding type_step
  instruction_typed pc (methods.push_int value) here frame after values run goes step fit =
      of_same (constant value) here values after run
      (constant_typed value frame after values step fit)
  instruction_typed pc (methods.ldc operand) here frame after values run goes step fit =
      loaded_typed operand here pc frame after values run step fit
  instruction_typed pc (methods.int_arithmetic operation) here frame after values run goes step fit =
      ints_typed (operation_of operation) here frame after values run step fit
  instruction_typed pc methods.int_negate here frame after values run goes step fit =
      of_same negate here values after run (negate_typed frame after values step fit)
  instruction_typed pc (methods.stack methods.pop_one) here frame after values run goes step fit =
      of_same pop here values after run (pop_typed frame.locals frame.stack after values step fit)
  instruction_typed pc (methods.getstatic operand) here frame after values run goes step fit =
      let is = when_is (is_out operand) (Some get_out) here run in
      of_same get_out here values after is.1 (out_typed operand frame after values is.0 step fit)
  instruction_typed pc (methods.invokevirtual operand) here frame after values run goes step fit =
      let is = when_is (is_println operand) (Some print_line) here run in
      of_same print_line here values after is.1
      (println_typed operand frame after values is.0 step fit)
  instruction_typed pc methods.return_void here frame after values run goes step fit =
      absurd (let no = ap is_return (some-inj run) ∙ goes in cc)
  instruction_typed pc other here frame after values run goes step fit = absurd cc

-- flow goes on behind it
pub flow_goes_on : (instruction : methods.Instruction Operand) (here : Instruction)
    → instruction_of instruction ≡ Some here → is_return here ≡ false
    → goes_on instruction ≡ true
unfolding goes_on
flow_goes_on (methods.push_int value) here run goes = refl
flow_goes_on (methods.ldc operand) here run goes = refl
flow_goes_on (methods.int_arithmetic operation) here run goes = refl
flow_goes_on methods.int_negate here run goes = refl
flow_goes_on (methods.stack methods.pop_one) here run goes = refl
flow_goes_on (methods.getstatic operand) here run goes = refl
flow_goes_on (methods.invokevirtual operand) here run goes = refl
flow_goes_on methods.return_void here run goes =
    absurd (let no = ap is_return (some-inj run) ∙ goes in cc)
flow_goes_on other here run goes = absurd cc

-- ---- the code of a method

-- where the first of two is none, both are
no_place : {A B : Type 0} (found : Option A) (told : A → B) (others : Option B)
    → (if is_some found then option_map told found else others) ≡ None
    → (found ≡ None) × (others ≡ None)
no_place None told others none = (refl, none)
no_place (Some x) told others none = absurd cc

-- a straight line has an instruction
some_left : (max_stack : ℕ) (types : List ValueType) (line : List Placed)
    → is_straight max_stack types line ≡ true → eqb (length line) 0 ≡ false
some_left max_stack types [] straight = absurd cc
some_left max_stack types (first ∷ others) straight = rw eqb-suc-zero refl

-- an instruction that another one follows
abbrev placed_here : ℕ → Instruction → Placed
placed_here number here = record { pc = number; next = number + 1; instruction = here }

goes_before : (max_stack number : ℕ) (values types : List ValueType) (here : Instruction)
    (line : List Placed) → types_after here values ≡ Some types
    → leb (length types) max_stack ≡ true → is_straight max_stack types line ≡ true
    → is_straight max_stack values (placed_here number here ∷ line) ≡ true
goes_before max_stack number values types here line is short straight =
    rw (some_left max_stack types line straight, is, short) straight

module _ (e : Environment) where
  -- the frame of an instruction to which flow comes with that one
  framed_fits : (visit : Visit) (flow frame : TypeFrame) (values : List ValueType)
      → visit.flow ≡ Some flow → frame_of e visit ≡ Some frame → first_failing e visit ≡ None
      → Fit values flow.stack → Fit values frame.stack
  framed_fits visit flow frame values comes has none fit =
      elim (joined e visit flow frame comes has none) [
        | inl same ↦ subst (λ (f : TypeFrame). Fit values f.stack) (sym same) fit
        | inr goes ↦
            stack_goes e.world values flow.stack frame.stack fit
            (both_hold (locals_assignable e.world flow.locals frame.locals)
            (stack_assignable e.world flow.stack frame.stack) goes).1
      ]

  -- what flow comes with behind an instruction that goes on
  comes_behind : (visit : Visit) (frame after : TypeFrame)
      → goes_on visit.placed.instruction ≡ true → frame_of e visit ≡ Some frame
      → type_step e visit.placed.pc visit.placed.instruction frame ≡ Some after
      → flow_behind e visit ≡ Some after
  comes_behind visit frame after goes has is = rw (goes, has) is

  module _ (placed : code.Placed Operand) (others : List (code.Placed Operand)) (flow : TypeFrame)
      (values : List ValueType) (here : Instruction) (rest reached : List Instruction) (number : ℕ)
    where
      abbrev visit : Visit
      visit = visit_of (Some flow) placed others

      -- those behind it are a straight line, whatever it leaves
      abbrev GoOn : Type 0
      GoOn = (after : TypeFrame) (types : List ValueType) (left : List Instruction)
          → flow_behind e visit ≡ Some after → Fit types after.stack
          → up_to_return rest ≡ Some left
          → is_straight e.body.max_stack types (numbered_from (number + 1) left) ≡ true

      first_straight : (frame : TypeFrame) (test : Bool) → is_return here ≡ test
          → instruction_of placed.instruction ≡ Some here → frame_of e visit ≡ Some frame
          → first_failing e visit ≡ None → Fit values frame.stack → GoOn
          → (if test then Some (here ∷ []) else option_map (λ left. here ∷ left) (up_to_return rest))
          ≡ Some reached
          → is_straight e.body.max_stack values (numbered_from number reached) ≡ true
      first_straight frame true returns run has none fit go_on ends =
          subst (λ line. is_straight e.body.max_stack values (numbered_from number line) ≡ true)
          (some-inj ends) returns
      first_straight frame false goes run has none fit go_on ends =
          let left = map_is (λ (left : List Instruction). here ∷ left) (up_to_return rest) reached ends in
          let applies : Applies e placed frame = applied e visit frame has none in
          let typed =
          instruction_typed e placed.pc placed.instruction here frame applies.after values run goes
          applies.is_after fit in
          let behind =
          comes_behind visit frame applies.after (flow_goes_on placed.instruction here run goes) has
          applies.is_after in
          subst (λ line. is_straight e.body.max_stack values (numbered_from number line) ≡ true)
          left.2
          (goes_before e.body.max_stack number values typed.types here
          (numbered_from (number + 1) left.0) typed.is typed.short
          (go_on applies.after typed.types left.0 behind typed.fit left.1))

  framed_straight : (placed : code.Placed Operand) (others : List (code.Placed Operand))
      (flow : TypeFrame) (values : List ValueType) (here : Instruction)
      (rest reached : List Instruction) (number : ℕ)
      → Framed (frame_of e (visit_of (Some flow) placed others))
      → first_failing e (visit_of (Some flow) placed others) ≡ None
      → instruction_of placed.instruction ≡ Some here → Fit values flow.stack
      → GoOn placed others flow values here rest reached number
      → up_to_return (here ∷ rest) ≡ Some reached
      → is_straight e.body.max_stack values (numbered_from number reached) ≡ true
  framed_straight placed others flow values here rest reached number (framed frame has) none run fit
      go_on ends =
      first_straight placed others flow values here rest reached number frame (is_return here) refl
      run has none
      (framed_fits (visit_of (Some flow) placed others) flow frame values refl has none fit) go_on
      ends

  pub straight : (code : List (code.Placed Operand)) (flow : TypeFrame) (values : List ValueType)
      (instructions reached : List Instruction) (number : ℕ) → Fit values flow.stack
      → first_place e (visits_from e (Some flow) code) ≡ None
      → instructions_of code ≡ Some instructions → up_to_return instructions ≡ Some reached
      → is_straight e.body.max_stack values (numbered_from number reached) ≡ true
  unfolding first_place visits_from instructions_of
  straight [] flow values instructions reached number fit none run ends =
      let no : up_to_return [] ≡ Some reached =
      subst (λ line. up_to_return line ≡ Some reached) (sym (some-inj run)) ends in absurd cc
  straight (placed ∷ others) flow values instructions reached number fit none run ends =
      let visit : Visit = visit_of (Some flow) placed others in
      let first = bind_is (λ here. instructions_of others >>= λ rest. Some (here ∷ rest))
      (instruction_of placed.instruction) instructions run in
      let second = bind_is (λ (rest : List Instruction). Some (first.0 ∷ rest))
      (instructions_of others) instructions first.2 in
      let nowhere = no_place (first_failing e visit) (λ rule. (placed.pc, rule))
      (first_place e (visits_from e (flow_behind e visit) others)) none in
      framed_straight placed others flow values first.0 second.0 reached number
      (has-frame e visit nowhere.0) nowhere.0 first.1 fit
      (λ after types left behind fit_then left_is.
      straight others after types second.0 left (number + 1) fit_then
      (subst (λ comes. first_place e (visits_from e comes others) ≡ None) behind nowhere.1)
      second.1 left_is)
      (subst (λ line. up_to_return line ≡ Some reached) (sym (some-inj second.2)) ends)

-- ---- a verified main

numbers_follow : (number : ℕ) (instructions : List Instruction)
    → FollowEachOther number (numbered_from number instructions)
numbers_follow number [] = tt
numbers_follow number (first ∷ others) =
    (refl, omega arith, numbers_follow (number + 1) others)

-- a well typed method's code that is run is a straight line
pub line_is_straight : (e : Environment) (line : Body) → first_place e (visits e) ≡ None
    → straight_body e.body ≡ Some line → IsStraightLine line
line_is_straight e line none run =
    let first = bind_is
    (λ instructions. up_to_return instructions >>= λ reached. Some (with_instructions e.body reached))
    (instructions_of e.body.instructions) line run in
    let second = bind_is (λ (reached : List Instruction). Some (with_instructions e.body reached))
    (up_to_return first.0) line first.2 in
    subst IsStraightLine (some-inj second.2) (record {
      places = numbers_follow 0 second.0;
      operands = straight e e.body.instructions (descriptor_frame e) [] first.0 second.0 0 tt none
          first.1 second.1;
    })

-- so is main, where it has code
abbrev main_descriptor : List ℕ
main_descriptor = codes "([Ljava/lang/String;)V"

method_is_straight : (world : World) (its : Class) (method : Method) (line : Body)
    → failing_place world its method ≡ None → method.descriptor ≡ main_descriptor
    → (method.code >>= straight_body) ≡ Some line → IsStraightLine line
unfolding are_parts before_semicolon type_at dimensions parameters_within
method_is_straight world its method line none descriptor run =
    let body = bind_is straight_body method.code line run in
    let e : Environment = record {
      world = world;
      class = its;
      method = method;
      type = record {
        parameters =
            descriptors.array_of (descriptors.class_type (codes "java/lang/String")) ∷ [];
        result = None;
      };
      body = body.0;
    } in
    let is : environment_of world its method ≡ Some e =
    ap (λ found. found >>= λ b. method_type_of method.descriptor >>= λ type.
    Some (record { world = world; class = its; method = method; type = type; body = b })) body.1
    ∙ ap (λ (units : List ℕ). method_type_of units >>= λ type.
    Some (record { world = world; class = its; method = method; type = type; body = body.0 }))
    descriptor in
    line_is_straight e line
    (subst (λ (found : Option Environment). (found >>= λ e. first_place e (visits e)) ≡ None) is none)
    body.2

-- what was found passes, and has what all have
found_has : (has : Method → Type 0) (test : Method → Bool) (methods : List Method)
    (method : Method) → AllByRecursion has methods → find test methods ≡ Some method
    → (test method ≡ true) × has method
found_has has test [] method all found = absurd cc
found_has has test (first ∷ others) method all found =
    by_test (test first) refl found (found_has has test others method all.1)
  where
    by_test : (passes : Bool) → test first ≡ passes
        → cond passes (Some first) (find test others) ≡ Some method
        → (find test others ≡ Some method → (test method ≡ true) × has method)
        → (test method ≡ true) × has method
    by_test true is found later =
        subst (λ (m : Method). (test m ≡ true) × has m) (some-inj found) (is, all.0)
    by_test false is found later = later found

pub main_is_straight : (world : World) (its : Class) (line : Body)
    → AllByRecursion (λ (m : Method). failing_place world its m ≡ None) its.methods
    → main_code its ≡ Some line → IsStraightLine line
main_is_straight world its line typed run =
    let body = bind_is straight_body (code_of_main its) line run in
    let method = bind_is (λ (m : Method). m.code)
    (declared_method (codes "main") main_descriptor its) body.0 body.1 in
    let found = found_has (λ (m : Method). failing_place world its m ≡ None)
    (λ (m : Method). bytes_eq m.name (codes "main") && bytes_eq m.descriptor main_descriptor)
    its.methods method.0 typed method.1 in
    let named = both_hold (bytes_eq method.0.name (codes "main"))
    (bytes_eq method.0.descriptor main_descriptor) found.0 in
    method_is_straight world its method.0 line found.1
    ((bytes_eq-Decides method.0.descriptor main_descriptor).0 named.1)
    (rw method.2 body.2)

-- what is found in the only class of a verified world
pub only_main_is_straight : (classes : List Class) (its : Class) (line : Body)
    → AreVerified classes → classes ≡ its ∷ [] → main_code its ≡ Some line → IsStraightLine line
only_main_is_straight classes its line verified is run =
    let typed = subst (AllByRecursion (λ (c : Class).
    AllByRecursion (λ (m : Method). failing_place verified.world c m ≡ None) c.methods)) is
    verified.typed in
    main_is_straight verified.world its line typed.0 run
