-- The units that bytes are read as are those that they spell, and what spells units is read as
-- these.
use Rattle.std.proofs.Common.{◌≡◌, ℕ, ◌+◌, ◌/◌, ◌%◌, ◌^◌, ◌<◌, ◌≤◌, Bool, true, false, cond, ◌||◌, ltb, leb, eqb, List, [], ◌∷◌, ◌++◌, ◌⊎◌, Option, Some, None, refl, ap, ◌∙◌, arith, inl, inr}
use Rattle.std.specs.List.{AllByRecursion}
use Rattle.std.proofs.lemmas.Bool.{cases_lt, or_right, and_parts, and_left, and_right, and_from, or_cases, leb-true, ltb-true, eqb-true, lt-ltb, le-ltb, le-leb, eq-eqb}
use Rattle.jv_model.specs.ModifiedUtf8.{unit_bytes, text_bytes, SpellsText, is_single, is_later, unit_of_two, unit_of_three, is_double, is_triple, behind_unit, units_of}

-- ---- one unit

-- the bytes are those of the unit
pub record SpellsUnit (bytes : List ℕ) (unit : ℕ) : Type 0 where
  pub fits : unit < 2 ^ 16
  pub spelled : unit_bytes unit ≡ bytes

bytes_of_single : (unit : ℕ) → 1 ≤ unit → unit < 0x80 → unit_bytes unit ≡ unit ∷ []
bytes_of_single unit low high = rw (le-leb 1 unit low, lt-ltb unit 0x80 high) refl

bytes_of_double : (unit : ℕ) → (unit ≡ 0) ⊎ (0x80 ≤ unit) → unit < 0x800
    → unit_bytes unit ≡ (0xC0 + unit / 0x40) ∷ (0x80 + unit % 0x40) ∷ []
bytes_of_double unit (inl none) high = rw none refl
bytes_of_double unit (inr low) high =
    rw (and_right (leb 1 unit) (ltb unit 0x80) (le-ltb unit 0x80 low), lt-ltb unit 0x800 high) refl

bytes_of_triple : (unit : ℕ) → 0x800 ≤ unit
    → unit_bytes unit ≡ (0xE0 + unit / 0x1000) ∷ (0x80 + unit / 0x40 % 0x40) ∷
    (0x80 + unit % 0x40) ∷ []
bytes_of_triple unit low = rw (
  and_right (leb 1 unit) (ltb unit 0x80)
      (le-ltb unit 0x80 (omega arith)),
  le-ltb unit 0x800 low,
) refl

single_fits : (a : ℕ) → is_single a ≡ true → (1 ≤ a) × (a < 0x80)
single_fits a e = let parts = and_parts (leb 1 a) (ltb a 0x80) e in
    (leb-true 1 a parts.0, ltb-true a 0x80 parts.1)

later_fits : (b : ℕ) → is_later b ≡ true → (0x80 ≤ b) × (b < 0xC0)
later_fits b e = let parts = and_parts (leb 0x80 b) (ltb b 0xC0) e in
    (leb-true 0x80 b parts.0, ltb-true b 0xC0 parts.1)

pub single_spells : (a : ℕ) → is_single a ≡ true → SpellsUnit (a ∷ []) a
single_spells a e = let fits = single_fits a e in
    record { fits = omega arith; spelled = bytes_of_single a fits.0 fits.1 }

pub double_spells : (a b : ℕ) → is_double a b ≡ true → SpellsUnit (a ∷ b ∷ []) (unit_of_two a b)
double_spells a b e =
    let whole = and_parts _ _ e in
    let behind = and_parts _ _ whole.0 in
    let front = and_parts _ _ behind.0 in
    let a_low : 0xC0 ≤ a = leb-true 0xC0 a front.0 in
    let a_high : a < 0xE0 = ltb-true a 0xE0 front.1 in
    let b_fits = later_fits b behind.1 in
    let least : (unit_of_two a b ≡ 0) ⊎ (0x80 ≤ unit_of_two a b) =
    elim (or_cases (eqb (unit_of_two a b) 0) (leb 0x80 (unit_of_two a b)) whole.1) [
      | inl none ↦ inl (eqb-true (unit_of_two a b) 0 none)
      | inr some ↦ inr (leb-true 0x80 (unit_of_two a b) some)
    ] in
    let first : 0xC0 + unit_of_two a b / 0x40 ≡ a = omega arith in
    let second : 0x80 + unit_of_two a b % 0x40 ≡ b = omega arith in
    record {
      fits = omega arith;
      spelled = rw
          (bytes_of_double (unit_of_two a b) least (omega arith), first, second) refl;
    }

pub triple_spells : (a b c : ℕ) → is_triple a b c ≡ true
    → SpellsUnit (a ∷ b ∷ c ∷ []) (unit_of_three a b c)
triple_spells a b c e =
    let whole = and_parts _ _ e in
    let last = and_parts _ _ whole.0 in
    let behind = and_parts _ _ last.0 in
    let front = and_parts _ _ behind.0 in
    let a_low : 0xE0 ≤ a = leb-true 0xE0 a front.0 in
    let a_high : a < 0xF0 = ltb-true a 0xF0 front.1 in
    let b_fits = later_fits b behind.1 in
    let c_fits = later_fits c last.1 in
    let least : 0x800 ≤ unit_of_three a b c = leb-true 0x800 (unit_of_three a b c) whole.1 in
    let first : 0xE0 + unit_of_three a b c / 0x1000 ≡ a = omega arith in
    let second : 0x80 + unit_of_three a b c / 0x40 % 0x40 ≡ b = omega arith in
    let third : 0x80 + unit_of_three a b c % 0x40 ≡ c = omega arith in
    record {
      fits = omega arith;
      spelled = rw
          (bytes_of_triple (unit_of_three a b c) least, first, second, third) refl;
    }

-- ---- what is read is spelled

units_behind : (unit : ℕ) (read : Option (List ℕ)) (units : List ℕ)
    → behind_unit unit read ≡ Some units
    → (others : List ℕ) × (read ≡ Some others) × (units ≡ unit ∷ others)
units_behind unit None units e = absurd cc
units_behind unit (Some others) units e = (others, refl, cc)

spells_more : (first bytes : List ℕ) (unit : ℕ) (others units : List ℕ) → SpellsUnit first unit
    → SpellsText bytes others → units ≡ unit ∷ others → SpellsText (first ++ bytes) units
spells_more first bytes unit others units one more e =
    rw e (record {
      units_fit = (one.fits, more.units_fit);
      spelled = rw (one.spelled, ← more.spelled) refl;
    })

-- the first unit is spelled, and the others where they are read
spells_behind : (first bytes : List ℕ) (unit : ℕ) (units : List ℕ) → SpellsUnit first unit
    → ((others : List ℕ) → units_of bytes ≡ Some others → SpellsText bytes others)
    → behind_unit unit (units_of bytes) ≡ Some units → SpellsText (first ++ bytes) units
spells_behind first bytes unit units one more e =
    let read = units_behind unit (units_of bytes) units e in
    spells_more first bytes unit read.0 units one (more read.0 read.1) read.2

spells_none : (units : List ℕ) → units_of [] ≡ Some units → SpellsText [] units
spells_none [] e = record { units_fit = tt; spelled = refl }
spells_none (unit ∷ units) e = absurd cc

-- what is read by the first test that holds
if_read : {A : Type 0} (test : Bool) (x y : Option A) (value : A) → cond test x y ≡ Some value
    → ((test ≡ true) × (x ≡ Some value)) ⊎ ((test ≡ false) × (y ≡ Some value))
if_read true x y value e = inl (refl, e)
if_read false x y value e = inr (refl, e)

not_none : {A : Type 0} (value : A) → None ≡ Some value → ⊥
not_none value e = cc

pub text_takes : (bytes units : List ℕ) → units_of bytes ≡ Some units → SpellsText bytes units
text_takes [] units e = spells_none units e
text_takes (a ∷ []) units e =
    elim (if_read (is_single a) (behind_unit a (units_of [])) None units e) [
      | inl one ↦ spells_behind (a ∷ []) [] a units (single_spells a one.0) spells_none one.1
      | inr other ↦ absurd (not_none units other.1)
    ]
text_takes (a ∷ b ∷ []) units e =
    elim (if_read (is_single a) (behind_unit a (units_of (b ∷ []))) _ units e) [
      | inl one ↦ spells_behind (a ∷ []) (b ∷ []) a units (single_spells a one.0)
          (text_takes (b ∷ [])) one.1
      | inr other ↦
          elim (if_read (is_double a b) (behind_unit (unit_of_two a b) (units_of [])) None units
          other.1) [
            | inl two ↦ spells_behind (a ∷ b ∷ []) [] (unit_of_two a b) units
                (double_spells a b two.0) spells_none two.1
            | inr none ↦ absurd (not_none units none.1)
          ]
    ]
text_takes (a ∷ b ∷ c ∷ rest) units e =
    elim (if_read (is_single a) (behind_unit a (units_of (b ∷ c ∷ rest))) _ units e) [
      | inl one ↦ spells_behind (a ∷ []) (b ∷ c ∷ rest) a units (single_spells a one.0)
          (text_takes (b ∷ c ∷ rest)) one.1
      | inr other ↦
          elim (if_read (is_double a b) (behind_unit (unit_of_two a b) (units_of (c ∷ rest))) _
          units other.1) [
            | inl two ↦ spells_behind (a ∷ b ∷ []) (c ∷ rest) (unit_of_two a b) units
                (double_spells a b two.0) (text_takes (c ∷ rest)) two.1
            | inr more ↦
                elim (if_read (is_triple a b c)
                (behind_unit (unit_of_three a b c) (units_of rest)) None units more.1) [
                  | inl three ↦ spells_behind (a ∷ b ∷ c ∷ []) rest (unit_of_three a b c) units
                      (triple_spells a b c three.0) (text_takes rest) three.1
                  | inr none ↦ absurd (not_none units none.1)
                ]
          ]
    ]

-- ---- what is spelled is read

pub units_of-single : (a : ℕ) (rest : List ℕ) → is_single a ≡ true
    → units_of (a ∷ rest) ≡ behind_unit a (units_of rest)
units_of-single a [] one = rw one refl
units_of-single a (b ∷ []) one = rw one refl
units_of-single a (b ∷ c ∷ rest) one = rw one refl

pub units_of-double : (a b : ℕ) (rest : List ℕ) → is_single a ≡ false → is_double a b ≡ true
    → units_of (a ∷ b ∷ rest) ≡ behind_unit (unit_of_two a b) (units_of rest)
units_of-double a b [] one two = rw (one, two) refl
units_of-double a b (c ∷ rest) one two = rw (one, two) refl

pub units_of-triple : (a b c : ℕ) (rest : List ℕ) → is_single a ≡ false → is_double a b ≡ false
    → is_triple a b c ≡ true → units_of (a ∷ b ∷ c ∷ rest)
    ≡ behind_unit (unit_of_three a b c) (units_of rest)
units_of-triple a b c rest one two three = rw (one, two, three) refl

single_from : (a : ℕ) → 1 ≤ a → a < 0x80 → is_single a ≡ true
single_from a low high = and_from _ _ (le-leb 1 a low) (lt-ltb a 0x80 high)

not_single : (a : ℕ) → 0x80 ≤ a → is_single a ≡ false
not_single a low = and_right (leb 1 a) (ltb a 0x80) (le-ltb a 0x80 low)

later_from : (b : ℕ) → 0x80 ≤ b → b < 0xC0 → is_later b ≡ true
later_from b low high = and_from _ _ (le-leb 0x80 b low) (lt-ltb b 0xC0 high)

double_from : (a b : ℕ) → 0xC0 ≤ a → a < 0xE0 → is_later b ≡ true
    → (unit_of_two a b ≡ 0) ⊎ (0x80 ≤ unit_of_two a b) → is_double a b ≡ true
double_from a b low high later least =
    let long : (eqb (unit_of_two a b) 0 || leb 0x80 (unit_of_two a b)) ≡ true =
    elim least [
      | inl none ↦ rw (eq-eqb (unit_of_two a b) 0 none) refl
      | inr some ↦ or_right (eqb (unit_of_two a b) 0) (leb 0x80 (unit_of_two a b))
          (le-leb 0x80 (unit_of_two a b) some)
    ] in
    and_from _ _ (and_from _ _ (and_from _ _ (le-leb 0xC0 a low) (lt-ltb a 0xE0 high)) later) long

not_double : (a b : ℕ) → 0xE0 ≤ a → is_double a b ≡ false
not_double a b low = and_left _ _
    (and_left _ _ (and_right (leb 0xC0 a) (ltb a 0xE0) (le-ltb a 0xE0 low)))

triple_from : (a b c : ℕ) → 0xE0 ≤ a → a < 0xF0 → is_later b ≡ true → is_later c ≡ true
    → 0x800 ≤ unit_of_three a b c → is_triple a b c ≡ true
triple_from a b c low high later last least =
    and_from _ _ (and_from _ _ (and_from _ _
    (and_from _ _ (le-leb 0xE0 a low) (lt-ltb a 0xF0 high)) later) last)
    (le-leb 0x800 (unit_of_three a b c) least)

single_again : (unit : ℕ) (rest : List ℕ) → 1 ≤ unit → unit < 0x80
    → units_of (unit_bytes unit ++ rest) ≡ behind_unit unit (units_of rest)
single_again unit rest low high =
    rw (bytes_of_single unit low high) (units_of-single unit rest (single_from unit low high))

double_again : (unit : ℕ) (rest : List ℕ) → (unit ≡ 0) ⊎ (0x80 ≤ unit) → unit < 0x800
    → units_of (unit_bytes unit ++ rest) ≡ behind_unit unit (units_of rest)
double_again unit rest low high =
    let a : ℕ = 0xC0 + unit / 0x40 in
    let b : ℕ = 0x80 + unit % 0x40 in
    let same : unit_of_two a b ≡ unit = omega arith in
    let read : units_of (a ∷ b ∷ rest) ≡ behind_unit (unit_of_two a b) (units_of rest) =
    units_of-double a b rest (not_single a (omega arith))
    (double_from a b (omega arith) (omega arith) (later_from b (omega arith) (omega arith))
    (rw same low)) in
    ap (λ (bytes : List ℕ). units_of (bytes ++ rest)) (bytes_of_double unit low high) ∙ read
    ∙ ap (λ (u : ℕ). behind_unit u (units_of rest)) same

triple_again : (unit : ℕ) (rest : List ℕ) → 0x800 ≤ unit → unit < 2 ^ 16
    → units_of (unit_bytes unit ++ rest) ≡ behind_unit unit (units_of rest)
triple_again unit rest low high =
    let a : ℕ = 0xE0 + unit / 0x1000 in
    let b : ℕ = 0x80 + unit / 0x40 % 0x40 in
    let c : ℕ = 0x80 + unit % 0x40 in
    let same : unit_of_three a b c ≡ unit = omega arith in
    let read : units_of (a ∷ b ∷ c ∷ rest) ≡ behind_unit (unit_of_three a b c) (units_of rest) =
    units_of-triple a b c rest (not_single a (omega arith)) (not_double a b (omega arith))
    (triple_from a b c (omega arith) (omega arith) (later_from b (omega arith) (omega arith))
    (later_from c (omega arith) (omega arith)) (omega arith)) in
    ap (λ (bytes : List ℕ). units_of (bytes ++ rest)) (bytes_of_triple unit low) ∙ read
    ∙ ap (λ (u : ℕ). behind_unit u (units_of rest)) same

pub unit_again : (unit : ℕ) (rest : List ℕ) → unit < 2 ^ 16
    → units_of (unit_bytes unit ++ rest) ≡ behind_unit unit (units_of rest)
unit_again unit rest fits =
    elim (cases_lt unit 0x80) [
      | inl small ↦
          elim (cases_lt unit 1) [
            | inl none ↦ double_again unit rest (inl (omega arith)) (omega arith)
            | inr some ↦ single_again unit rest some small
          ]
      | inr more ↦
          elim (cases_lt unit 0x800) [
            | inl small ↦ double_again unit rest (inr more) small
            | inr large ↦ triple_again unit rest large fits
          ]
    ]

units_again : (units : List ℕ) → AllByRecursion (λ unit. unit < 2 ^ 16) units
    → units_of (text_bytes units) ≡ Some units
units_again [] fits = refl
units_again (unit ∷ units) fits =
    rw (unit_again unit (text_bytes units) fits.0, units_again units fits.1) refl

pub text_again : (bytes units : List ℕ) → SpellsText bytes units → units_of bytes ≡ Some units
text_again bytes units text = rw text.spelled (units_again units text.units_fit)
