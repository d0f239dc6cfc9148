-- The run of a straight line: thread 0 alone, in turns of a slice each.
use Rattle.std.proofs.Common.{◌≡◌, ℕ, zero, suc, ◌+◌, ◌-◌, ◌<◌, ◌≤◌, Bool, true, false, cond, leb, ◌&&◌, List, [], ◌∷◌, ◌++◌, length, map, Option, Some, None, is_some, refl, sym, ap, subst, ◌∙◌, append_assoc, zero-add, add-zero, arith, inl, inr}
use Rattle.std.specs.Prelude.{IfSome, IsTrue, IsSome}
use Rattle.std.proofs.lemmas.List.{append-nil, length-map}
use Rattle.std.proofs.lemmas.Bool.{le-leb, cases_lt}
use Rattle.jv_model.specs.Partial.{◌>>=◌}
use Rattle.straight_line_model.specs.Instruction.{Instruction, Placed}
use Rattle.straight_line_model.specs.StraightLine.{is_straight, IsStraightLine, FollowEachOther}
use Rattle.straight_line_model.specs.Machine.{Program, Machine, start, step, steps_of}
use Rattle.jv_model.specs.Journal.{Entry, run}
use Rattle.run_model.specs.Journal.{made, is_legal, replayed}
use Rattle.jv_model.specs.Limits.{most_slice_steps}
use Rattle.run_model.specs.RoundRobin.{next_thread, IsSlice, TakesTurns}
use Rattle.run_model.specs.MainCode.{numbered_from}
use Rattle.straight_line.specs.declared.body.Instruction.{Instruction as Here}
use Rattle.straight_line.specs.Body.{instruction_of}
use Rattle.straight_line.specs.Runs.{State, after_all, IsTurn, RanToEnd}
use Rattle.straight_line.proofs.StraightLineLemmas.{machine_at, IsReady, RanSlice, slice_runs}

-- ---- some steps, and then some more

-- what follows a first step, cut in two
chain_cut : {A : Type 0} (found : Option A) (both first : A → Option A) (second : A → Option A)
    → ((x : A) → both x ≡ (first x >>= second)) → (found >>= both) ≡ ((found >>= first) >>= second)
chain_cut None both first second each = refl
chain_cut (Some x) both first second each = each x

steps-add : (t first second : ℕ) (machine : Machine)
    → steps_of t (first + second) machine
    ≡ (steps_of t first machine >>= λ next. steps_of t second next)
unfolding steps_of
steps-add t zero second machine = rw zero-add refl
steps-add t (suc first) second machine =
    let count : suc first + second ≡ suc (first + second) = omega arith in
    rw count (chain_cut (step t machine) (steps_of t (first + second)) (steps_of t first)
    (steps_of t second) (steps-add t first second))

-- an ended run goes no further
no_step : (program : Program) (state : State) (steps more : ℕ)
    → steps_of 0 (suc more) (machine_at program [] state steps) ≡ None
unfolding step steps_of
no_step program state steps more = refl

-- ---- the entry of a slice

made_is : (count : ℕ) (machine next : Machine) → 1 ≤ count → count ≤ most_slice_steps
    → steps_of 0 count machine ≡ Some next → made (run 0 count) machine ≡ Some next
unfolding made
made_is count machine next some within is =
    rw (le-leb 1 count some, le-leb count 4096 (omega arith)) is

some_if : {A : Type 0} (test : Bool) (found : Option A) → IsSome (cond test found None)
    → IsSome found
some_if true found some = some
some_if false found some = absurd cc

-- what is legal can be made
legal_steps : (count : ℕ) (machine : Machine) → IsTrue (is_legal (run 0 count) machine)
    → IsSome (steps_of 0 count machine)
unfolding made
legal_steps count machine legal =
    some_if (leb 1 count && leb count 4096) (steps_of 0 count machine) legal

-- a slice that ends the run is all that thread 0 can do
none_behind : (program : Program) (slice : List Placed) (state next : State) (steps more : ℕ)
    → steps_of 0 (length slice) (machine_at program (slice ++ []) state steps)
    ≡ Some (machine_at program [] next (steps + length slice))
    → length slice < more
    → IsTrue (is_legal (run 0 more) (machine_at program (slice ++ []) state steps)) → ⊥
none_behind program slice state next steps more is above legal =
    let count : length slice + suc (more - (length slice + 1)) ≡ more = omega arith in
    let machine = machine_at program (slice ++ []) state steps in
    let none : steps_of 0 more machine ≡ None =
    ap (λ n. steps_of 0 n machine) (sym count)
    ∙ steps-add 0 (length slice) (suc (more - (length slice + 1))) machine
    ∙ ap (λ o. o >>= λ next. steps_of 0 (suc (more - (length slice + 1))) next) is
    ∙ no_step program next (steps + length slice) (more - (length slice + 1)) in
    let some = legal_steps more machine legal in
    let is_none = ap is_some none in
    absurd cc

greatest_slice : (program : Program) (slice rest : List Placed) (state next : State)
    (steps more : ℕ) → IsTurn slice rest
    → steps_of 0 (length slice) (machine_at program (slice ++ rest) state steps)
    ≡ Some (machine_at program rest next (steps + length slice))
    → more ≤ most_slice_steps
    → IsTrue (is_legal (run 0 more) (machine_at program (slice ++ rest) state steps))
    → more ≤ length slice
greatest_slice program slice rest state next steps more turn is within legal =
    elim turn.full [
      | inl last ↦ elim (cases_lt (length slice) more) [
        | inl above ↦
            absurd (none_behind program slice state next steps more (rw last at is) above
            (rw last at legal))
        | inr below ↦ below
      ]
      | inr full ↦ omega arith
    ]

-- ---- the journal

-- The entries so far are a front of the program's journal, and lead to the machine, from which on
-- thread 0 is the next.
pub record HasRun (program : Program) (entries : List Entry) (machine : Machine) : Type 0 where
  pub cursor : ℕ
  pub is_first : cursor ≤ 1
  pub in_turns : (others : List Entry) → TakesTurns cursor machine others
      → TakesTurns 0 (start program) (entries ++ others)
  pub replayed : replayed entries (start program) ≡ Some machine

replayed-append : (entries others : List Entry) (machine : Machine)
    → replayed (entries ++ others) machine
    ≡ (replayed entries machine >>= λ next. replayed others next)
replayed-append [] others machine = refl
replayed-append (entry ∷ entries) others machine =
    chain_cut (made entry machine) (replayed (entries ++ others)) (replayed entries)
    (replayed others) (replayed-append entries others)

takes_turn : (cursor count : ℕ) (machine next : Machine) (others : List Entry)
    → next_thread cursor machine ≡ Some 0 → IsSlice machine 0 count
    → made (run 0 count) machine ≡ Some next
    → TakesTurns 1 next others → TakesTurns cursor machine (run 0 count ∷ others)
unfolding made
takes_turn cursor count machine next others first slice is turns =
    (refl, first, slice, subst (λ o. IfSome o (λ next. TakesTurns 1 next others)) (sym is) turns)

-- thread 0 is the first from either cursor on, where it has a frame
first_thread : (cursor : ℕ) (program : Program) (first : Placed) (others : List Placed)
    (state : State) (steps : ℕ) → cursor ≤ 1
    → is_legal (run 0 1) (machine_at program (first ∷ others) state steps) ≡ true
    → next_thread cursor (machine_at program (first ∷ others) state steps) ≡ Some 0
first_thread zero program first others state steps small legal = rw legal refl
first_thread (suc zero) program first others state steps small legal = rw legal refl
first_thread (suc (suc cursor)) program first others state steps small legal = absurd (omega arith)

some_of_chain : {A : Type 0} (found : Option A) (others : A → Option A) (end : A)
    → (found >>= others) ≡ Some end → IsSome found
some_of_chain None others end is = absurd cc
some_of_chain (Some x) others end is = refl

-- where a thread makes some steps, it makes the first of them
one_is_legal : (count : ℕ) (machine next : Machine) → 1 ≤ count
    → steps_of 0 count machine ≡ Some next → is_legal (run 0 1) machine ≡ true
unfolding made
one_is_legal count machine next some is =
    let whole : 1 + (count - 1) ≡ count = omega arith in
    some_of_chain (steps_of 0 1 machine) (steps_of 0 (count - 1)) next
    (sym (steps-add 0 1 (count - 1) machine) ∙ ap (λ n. steps_of 0 n machine) whole ∙ is)

pub starts : (program : Program) → IsStraightLine program.main
    → HasRun program []
    (machine_at program program.main.instructions (record { stack = []; output = [] }) 0)
starts program straight =
    starts_at program program.main.instructions straight.places straight.operands where
      starts_at : (program : Program) (instructions : List Placed) → FollowEachOther 0 instructions
          → IsTrue (is_straight program.main.max_stack [] instructions)
          → HasRun program []
          (machine_at program instructions (record { stack = []; output = [] }) 0)
      starts_at program [] follow straight = absurd cc
      starts_at program (first ∷ others) follow straight =
          rw follow.0 (record {
            cursor = 0;
            is_first = omega arith;
            in_turns =
                λ others turns. turns;
            replayed = refl;
          })

-- One turn more, of thread 0.
pub turn_taken : (program : Program) (entries : List Entry) (slice rest : List Placed)
    (state : State) (steps : ℕ) (ran : RanSlice program slice rest state steps) → IsTurn slice rest
    → HasRun program entries (machine_at program (slice ++ rest) state steps)
    → HasRun program (entries ++ run 0 (length slice) ∷ [])
    (machine_at program rest ran.next (steps + length slice))
turn_taken program entries [] rest state steps ran turn so_far = absurd (omega (arith, turn.some))
turn_taken program entries (first ∷ others) rest state steps ran turn so_far =
    let slice = first ∷ others in
    let now = machine_at program (slice ++ rest) state steps in
    let next = machine_at program rest ran.next (steps + length slice) in
    let legal : is_legal (run 0 1) now ≡ true =
    one_is_legal (length slice) now next turn.some ran.is in
    let is : made (run 0 (length slice)) now ≡ Some next =
    made_is (length slice) now next turn.some turn.within ran.is in
    let whole : IsSlice now 0 (length slice) = record {
      legal = ap is_some is;
      within = turn.within;
      greatest =
          λ more within is_legal.
          greatest_slice program slice rest state ran.next steps more turn ran.is within is_legal;
    } in
    record {
      cursor = 1;
      is_first = omega arith;
      in_turns = λ later turns. rw append_assoc (so_far.in_turns (run 0 (length slice) ∷ later)
          (takes_turn so_far.cursor (length slice) now next later
          (first_thread so_far.cursor program first (others ++ rest) state steps so_far.is_first
          legal) whole is turns));
      replayed = replayed-append entries (run 0 (length slice) ∷ []) (start program)
          ∙ ap (λ o. o >>= λ next. replayed (run 0 (length slice) ∷ []) next) so_far.replayed
          ∙ ap (λ o. o >>= λ next. replayed [] next) is;
    }

pub ran_to_end : (program : Program) (entries : List Entry) (state : State) (steps : ℕ)
    → HasRun program entries (machine_at program [] state steps)
    → RanToEnd program entries state.output
ran_to_end program entries state steps so_far = record {
  machine = machine_at program [] state steps;
  in_turns = subst (TakesTurns 0 (start program)) (append-nil entries) (so_far.in_turns [] tt);
  replayed = so_far.replayed;
  ended = refl;
  printed = refl;
}

-- ---- instructions with their numbers

-- there are as many
pub numbered-length : (number : ℕ) (instructions : List Instruction)
    → length (numbered_from number instructions) ≡ length instructions
numbered-length number [] = refl
numbered-length number (first ∷ others) = ap suc (numbered-length (number + 1) others)

-- they are the same ones
numbered-same : (number : ℕ) (instructions : List Instruction)
    → map (λ (p : Placed). p.instruction) (numbered_from number instructions) ≡ instructions
numbered-same number [] = refl
numbered-same number (first ∷ others) = ap (λ rest. first ∷ rest) (numbered-same (number + 1) others)

-- the second part has the numbers behind those of the first
numbered-append : (number : ℕ) (first second : List Instruction)
    → numbered_from number (first ++ second)
    ≡ numbered_from number first ++ numbered_from (number + length first) second
numbered-append number [] second = rw add-zero refl
numbered-append number (first ∷ others) second =
    let behind : number + length (first ∷ others) ≡ (number + 1) + length others = omega arith in
    rw behind (ap (λ rest. record { pc = number; next = number + 1; instruction = first } ∷ rest)
    (numbered-append (number + 1) others second))

-- a turn of them is a turn
numbered-turn : (number place : ℕ) (slice rest : List Instruction) → IsTurn slice rest
    → IsTurn (numbered_from number slice) (numbered_from place rest)
numbered-turn number place slice rest turn = record {
  some = omega (arith, numbered-length number slice, turn.some);
  within = omega (arith, numbered-length number slice, turn.within);
  full = elim turn.full [
    | inl last ↦ inl (ap (numbered_from place) last)
    | inr full ↦ inr (numbered-length number slice ∙ full)
  ];
}

-- The entries so far, and the instructions that are left: those before them have run.
pub record IsUnderWay (program : Program) (entries : List Entry) (rest : List Instruction)
    (state : State) : Type 0 where
  pub number : ℕ
  pub before : List Placed
  pub split : program.main.instructions ≡ before ++ numbered_from number rest
  pub ready : IsReady program.main.max_stack state.stack (numbered_from number rest)
  pub steps : ℕ
  pub so_far : HasRun program entries (machine_at program (numbered_from number rest) state steps)

-- a turn by how the definitions see its instructions
pub turn_of_views : (slice rest : List Here) → IsTurn slice rest
    → IsTurn (map instruction_of slice) (map instruction_of rest)
turn_of_views slice rest turn = record {
  some = omega (arith, length-map slice instruction_of, turn.some);
  within = omega (arith, length-map slice instruction_of, turn.within);
  full = elim turn.full [
    | inl last ↦ inl (ap (λ (left : List Here). map instruction_of left) last)
    | inr full ↦ inr (length-map slice instruction_of ∙ full)
  ];
}

ready_at_start : (max_stack : ℕ) (instructions : List Placed)
    → IsTrue (is_straight max_stack [] instructions) → IsReady max_stack [] instructions
ready_at_start max_stack [] straight = tt
ready_at_start max_stack (first ∷ others) straight = straight

pub at_the_start : (program : Program) (instructions : List Instruction)
    → IsStraightLine program.main → program.main.instructions ≡ numbered_from 0 instructions
    → IsUnderWay program [] instructions (record { stack = []; output = [] })
at_the_start program instructions straight is = record {
  number = 0;
  before = [];
  split = is;
  ready = subst (IsReady program.main.max_stack []) is
      (ready_at_start program.main.max_stack program.main.instructions straight.operands);
  steps = 0;
  so_far = subst (λ left. HasRun program []
      (machine_at program left (record { stack = []; output = [] }) 0)) is (starts program straight);
}

module _ (program : Program) (straight : IsStraightLine program.main) (entries : List Entry)
    (slice rest whole : List Instruction) (state : State)
    (under_way : IsUnderWay program entries whole state) (parts : whole ≡ slice ++ rest) where
  abbrev turn : List Placed
  turn = numbered_from under_way.number slice

  abbrev left : List Placed
  left = numbered_from (under_way.number + length slice) rest

  both : numbered_from under_way.number whole ≡ turn ++ left
  both = ap (numbered_from under_way.number) parts
      ∙ numbered-append under_way.number slice rest

  ran : RanSlice program turn left state under_way.steps
  ran = slice_runs program under_way.before turn left state under_way.steps straight.places
      (under_way.split ∙ ap (λ others. under_way.before ++ others) both)
      (subst (IsReady program.main.max_stack state.stack) both under_way.ready)

  ran_all : after_all slice state ≡ Some ran.next
  ran_all = ap (λ instructions. after_all instructions state)
      (sym (numbered-same under_way.number slice)) ∙ ran.ran

  pub can_run : IsSome (after_all slice state)
  can_run = rw ran_all refl

  pub one_turn : (next : State) → after_all slice state ≡ Some next → IsTurn slice rest
      → IsUnderWay program (entries ++ run 0 (length slice) ∷ []) rest next
  one_turn next is is_turn =
      let made = sym ran_all ∙ is in
      let same : ran.next ≡ next = cc in
      let count : length turn ≡ length slice = numbered-length under_way.number slice in
      let taken = turn_taken program entries turn left state under_way.steps ran
      (numbered-turn under_way.number (under_way.number + length slice) slice rest is_turn)
      (subst (λ instructions.
      HasRun program entries (machine_at program instructions state under_way.steps))
      both under_way.so_far) in
      subst (IsUnderWay program (entries ++ run 0 (length slice) ∷ []) rest) same (record {
        number = under_way.number + length slice;
        before = under_way.before ++ turn;
        split = under_way.split ∙ ap (λ others. under_way.before ++ others) both
            ∙ sym (append_assoc under_way.before turn left);
        ready = ran.ready;
        steps = under_way.steps + length turn;
        so_far = subst (λ n. HasRun program (entries ++ run 0 n ∷ [])
            (machine_at program left ran.next (under_way.steps + length turn))) count taken;
      })

pub no_more : (program : Program) (entries : List Entry) (rest : List Instruction) (state : State)
    → rest ≡ [] → IsUnderWay program entries rest state → RanToEnd program entries state.output
no_more program entries rest state none under_way =
    ran_to_end program entries state under_way.steps
    (subst (λ instructions. HasRun program entries
    (machine_at program (numbered_from under_way.number instructions) state under_way.steps)) none
    under_way.so_far)
