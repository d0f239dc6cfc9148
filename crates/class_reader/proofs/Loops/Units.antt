-- The units of a text, one after the other.
use Rattle.std.proofs.Common.{◌≡◌, ℕ, ◌<◌, Bool, true, false, eqb, List, [], ◌∷◌, ◌++◌, length, Option, Some, None, if◌then◌else◌, refl, sym, ap, ◌∙◌, append_assoc, arith}
use Rattle.std.proofs.lemmas.Bool.{eqb-true}
use Rattle.std.proofs.lemmas.List.{append-nil, nil_from_length}
use Rattle.jv_model.specs.Partial.{◌>>=◌}
use Rattle.jv_model.specs.ModifiedUtf8.{is_single, is_double, is_triple, unit_of_two, unit_of_three, behind_unit, units_of}
use Rattle.class_reader.specs.Units.{first_unit}

-- these units, and those that are read behind them
abbrev pub units_in_front : List ℕ → Option (List ℕ) → Option (List ℕ)
units_in_front front read = read >>= λ units. Some (front ++ units)

abbrev behind_first : Option (ℕ × List ℕ) → Option (List ℕ)
behind_first first = first >>= λ first. behind_unit first.0 (units_of first.1)

-- a unit that a test tells, and what is read where it isn't one
chosen : (test : Bool) (unit : ℕ) (rest : List ℕ) (other : Option (ℕ × List ℕ))
    (others : Option (List ℕ)) → others ≡ behind_first other
    → (if test then behind_unit unit (units_of rest) else others)
    ≡ behind_first (if test then Some (unit, rest) else other)
chosen true unit rest other others same = refl
chosen false unit rest other others same = same

units_of-first : (a : ℕ) (rest : List ℕ)
    → units_of (a ∷ rest) ≡ behind_first (first_unit (a ∷ rest))
units_of-first a [] = chosen (is_single a) a [] None None refl
units_of-first a (b ∷ []) = chosen (is_single a) a (b ∷ []) _ _
    (chosen (is_double a b) (unit_of_two a b) [] None None refl)
units_of-first a (b ∷ c ∷ rest) =
    chosen (is_single a) a (b ∷ c ∷ rest) _ _
    (chosen (is_double a b) (unit_of_two a b) (c ∷ rest) _ _
    (chosen (is_triple a b c) (unit_of_three a b c) rest None None refl))

more : (bytes : List ℕ) → eqb (length bytes) 0 ≡ false
    → units_of bytes ≡ behind_first (first_unit bytes)
more [] some = absurd cc
more (a ∷ rest) some = units_of-first a rest

regroup : (front : List ℕ) (unit : ℕ) (read : Option (List ℕ))
    → units_in_front front (behind_unit unit read) ≡ units_in_front (front ++ unit ∷ []) read
regroup front unit (Some units) = ap (λ (units : List ℕ). Some units) (simp append_assoc)
regroup front unit None = refl

pub goes_on : (front bytes : List ℕ) (unit : ℕ) (rest : List ℕ) (whole : Option (List ℕ))
    → eqb (length bytes) 0 ≡ false → Some (unit, rest) ≡ first_unit bytes
    → units_in_front front (units_of bytes) ≡ whole
    → units_in_front (front ++ unit ∷ []) (units_of rest) ≡ whole
goes_on front bytes unit rest whole some first so_far =
    let one : units_of bytes ≡ behind_unit unit (units_of rest) = more bytes some
    ∙ ap behind_first (sym first) in
    sym (regroup front unit (units_of rest)) ∙ ap (units_in_front front) (sym one) ∙ so_far

pub fails : (front bytes : List ℕ) (whole : Option (List ℕ)) → eqb (length bytes) 0 ≡ false
    → None ≡ first_unit bytes → units_in_front front (units_of bytes) ≡ whole → None ≡ whole
fails front bytes whole some first so_far =
    let one : units_of bytes ≡ None = more bytes some ∙ ap behind_first (sym first) in
    ap (units_in_front front) (sym one) ∙ so_far

pub is_done : (front bytes : List ℕ) (whole : Option (List ℕ)) → eqb (length bytes) 0 ≡ true
    → units_in_front front (units_of bytes) ≡ whole → Some front ≡ whole
is_done front bytes whole none so_far =
    let nothing : bytes ≡ [] = nil_from_length bytes (eqb-true _ _ none) in
    ap (λ (units : List ℕ). Some units) (sym (append-nil front))
    ∙ ap (λ bytes. units_in_front front (units_of bytes)) (sym nothing) ∙ so_far

-- a unit that a test tells leaves fewer bytes
fewer : (test : Bool) (unit : ℕ) (rest : List ℕ) (other : Option (ℕ × List ℕ)) (first : ℕ × List ℕ)
    (most : ℕ) → length rest < most → (Some first ≡ other → length first.1 < most)
    → Some first ≡ (if test then Some (unit, rest) else other) → length first.1 < most
fewer true unit rest other first most less others is = let same : first.1 ≡ rest = cc in
    rw same less
fewer false unit rest other first most less others is = others is

pub shorter : (bytes : List ℕ) (first : ℕ × List ℕ) → Some first ≡ first_unit bytes
    → length first.1 < length bytes
shorter [] first is = absurd cc
shorter (a ∷ []) first is = fewer (is_single a) a [] None first _ (omega arith)
    (λ none. absurd cc) is
shorter (a ∷ b ∷ []) first is =
    fewer (is_single a) a (b ∷ []) _ first _ (omega arith)
    (fewer (is_double a b) (unit_of_two a b) [] None first _ (omega arith) (λ none. absurd cc))
    is
shorter (a ∷ b ∷ c ∷ rest) first is =
    fewer (is_single a) a (b ∷ c ∷ rest) _ first _ (omega arith)
    (fewer (is_double a b) (unit_of_two a b) (c ∷ rest) _ first _ (omega arith)
    (fewer (is_triple a b c) (unit_of_three a b c) rest None first _ (omega arith)
    (λ none. absurd cc))) is
