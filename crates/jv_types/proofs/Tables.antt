-- The table by which an instruction is found at its pc.
use Rattle.std.proofs.Common.{◌≡◌, ℕ, suc, ◌+◌, ◌-◌, ◌<◌, ◌≤◌, Bool, true, false, not, cond, eqb, ltb, List, [], ◌∷◌, ◌++◌, length, Option, Some, None, get_or, position, replicate, ap, ◌∙◌, sym, refl, arith, length-append, inl, inr}
use Rattle.std.specs.List.{position_or_len}
use Rattle.std.proofs.Math.Seq.{get_or-append_seam}
use Rattle.std.proofs.lemmas.List.{get_or_append_left, get_or-append_right, get_or_past, get_or-replicate, length-replicate}
use Rattle.std.proofs.lemmas.List.Folds.{position_or_len_push}
use Rattle.std.proofs.lemmas.List.Sums.{prefix_len-le-length}
use Rattle.std.proofs.lemmas.Bool.{cases_Bool, ltb-true, ltb-false, eqb-true, eqb-false, eq-eqb, ne_eqb}
use Rattle.jv_model.specs.Code.{Placed}
use Rattle.jv_types.specs.Instructions.{starts_at, end_from, end_of, no_number, number_of, most_places, Follows, IsTable}

-- ---- the first place after one more item

-- the item doesn't pass
position_same : {A : Type 0} (p : A → Bool) (xs : List A) (x : A) → p x ≡ false
    → position p (xs ++ x ∷ []) ≡ position p xs
position_same p xs x misses =
    grind (arith, position_or_len_push p xs x, length-append xs (x ∷ []), misses)

-- it is the first that does
position_last : {A : Type 0} (p : A → Bool) (xs : List A) (x : A) → p x ≡ true
    → position p xs ≡ None → position p (xs ++ x ∷ []) ≡ Some (length xs)
position_last p xs x passes none =
    grind (arith, position_or_len_push p xs x, length-append xs (x ∷ []), prefix_len-le-length (λ y. not (p y)) xs, passes, none)

-- ---- the table after one more instruction

-- the end is that of the last one
pub end_from_push : (place : ℕ) (xs : List (Placed ℕ)) (x : Placed ℕ)
    → end_from place (xs ++ x ∷ []) ≡ x.next
end_from_push place [] x = refl
end_from_push place (first ∷ others) x = end_from_push first.next others x

follows_push : (place : ℕ) (xs : List (Placed ℕ)) (x : Placed ℕ) → Follows place xs
    → x.pc ≡ end_from place xs → x.pc < x.next → Follows place (xs ++ x ∷ [])
follows_push place [] x order at some = (at, some, tt)
follows_push place (first ∷ others) x order at some =
    (order.0, order.1, follows_push first.next others x order.2 at some)

-- past the number, the table has nothing
nothing_in : (count at : ℕ) → get_or (replicate count no_number) at no_number ≡ no_number
nothing_in count at = elim (cases_Bool (ltb at count)) [
  | inl is ↦ get_or-replicate count at no_number no_number (ltb-true _ _ is)
  | inr not ↦ get_or_past (replicate count no_number) at no_number
      (omega (arith, ltb-false at count not, length-replicate {A = ℕ}))
]

nothing_after : (numbers : List ℕ) (number count pc : ℕ) → length numbers < pc
    → get_or (numbers ++ number ∷ replicate count no_number) pc no_number ≡ no_number
nothing_after numbers number count pc after =
    let at : ℕ = pc - length numbers - 1 in
    let is : pc - length numbers ≡ suc at = omega arith in
    get_or-append_right numbers (number ∷ replicate count no_number) (length numbers) pc no_number
    refl (omega arith)
    ∙ rw is (nothing_in count at)

pub empty_table : IsTable [] []
empty_table = record {
  order = tt;
  finds = λ pc. refl;
  few = omega arith;
  whole = refl;
  short = omega arith;
}

finds_push : (instructions : List (Placed ℕ)) (numbers : List ℕ) (x : Placed ℕ) (number count : ℕ)
    → IsTable instructions numbers → x.pc ≡ length numbers → number ≡ length instructions
    → number < no_number → (pc : ℕ)
    → number_of (get_or (numbers ++ number ∷ replicate count no_number) pc no_number)
    ≡ position (starts_at pc) (instructions ++ x ∷ [])
finds_push instructions numbers x number count table at number-is small pc =
    elim (cases_Bool (ltb pc (length numbers))) [
      | inl is ↦
          let below : pc < length numbers = ltb-true _ _ is in
          let other : eqb x.pc pc ≡ false = ne_eqb x.pc pc (omega arith) in
          ap number_of (get_or_append_left numbers (number ∷ replicate count no_number) no_number pc
          below)
          ∙ table.finds pc ∙ sym (position_same (starts_at pc) instructions x other)
      | inr not ↦ elim (cases_Bool (eqb pc (length numbers))) [
        | inl is ↦
            let here : pc ≡ length numbers = eqb-true _ _ is in
            let own : eqb x.pc pc ≡ true = eq-eqb x.pc pc (at ∙ sym here) in
            let none : position (starts_at pc) instructions ≡ None =
            sym (table.finds pc)
            ∙ ap number_of (get_or_past numbers pc no_number (omega arith)) in
            let some : number_of number ≡ Some number = rw (ne_eqb number no_number (omega arith)) in
            rw here (ap number_of (get_or-append_seam numbers number (replicate count no_number)
            no_number))
            ∙ some ∙ ap Some number-is
            ∙ sym (position_last (starts_at pc) instructions x own none)
        | inr other ↦
            let after : length numbers < pc =
            omega (arith, ltb-false pc (length numbers) not, eqb-false pc (length numbers) other) in
            let differs : eqb x.pc pc ≡ false = ne_eqb x.pc pc (omega arith) in
            ap number_of (nothing_after numbers number count pc after)
            ∙ sym (ap number_of (get_or_past numbers pc no_number (omega arith)))
            ∙ table.finds pc ∙ sym (position_same (starts_at pc) instructions x differs)
      ]
    ]

pub table_push : (instructions : List (Placed ℕ)) (numbers : List ℕ) (x : Placed ℕ)
    (number : ℕ) → IsTable instructions numbers → x.pc ≡ end_of instructions → x.pc < x.next
    → x.next ≤ most_places → number ≡ length instructions
    → IsTable (instructions ++ x ∷ [])
    (numbers ++ number ∷ replicate (x.next - x.pc - 1) no_number)
table_push instructions numbers x number table follows some short is =
    let at : x.pc ≡ length numbers = follows ∙ table.whole in
    let few : length instructions ≤ length numbers = table.few in
    let count : ℕ = x.next - x.pc - 1 in
    let longer : length (numbers ++ number ∷ replicate count no_number)
    ≡ length numbers + (1 + count) =
    length-append numbers (number ∷ replicate count no_number)
    ∙ ap (λ n. length numbers + suc n) (length-replicate count no_number)
    ∙ omega arith in
    record {
      order = follows_push 0 instructions x table.order follows some;
      finds = finds_push instructions numbers x number count table at is (omega arith);
      few = omega (arith, longer, length-append instructions (x ∷ []));
      whole = end_from_push 0 instructions x ∙ omega (arith, longer);
      short = omega (arith, longer);
    }
