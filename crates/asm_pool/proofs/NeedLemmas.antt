-- Needs, line by line.
use Rattle.std.proofs.Common.{◌≡◌, ℕ, List, [], ◌∷◌, ◌++◌, refl, ap, sym, ◌∙◌, append_assoc, map}
use Rattle.std.proofs.lemmas.List.{map-append}
use Rattle.jv_model.specs.Utf16.{units_of_utf8}
use Rattle.std.specs.Prelude.{codes}
use Rattle.std.specs.Str.{chars}
use Rattle.assembler_model.specs.PoolEntries.{Entry}
use Rattle.assembler_model.specs.PoolNeeds.{Need, needs_at}

-- two runs of needs, one behind the other
pub needs_both : (line : ℕ) (first second : List Entry) → needs_at line (first ++ second) ≡ needs_at line first ++ needs_at line second
needs_both line first second = map-append (λ entry. record { line = line; entry = entry }) first second

pub pushed : (line : ℕ) (old once twice : List Need) (first second : List Entry)
    → once ≡ old ++ needs_at line first → twice ≡ once ++ needs_at line second → twice ≡ old ++ needs_at line (first ++ second)
pushed line old once twice first second is then =
    then ∙ ap (λ needs. needs ++ needs_at line second) is
    ∙ append_assoc old (needs_at line first) (needs_at line second)
    ∙ ap (λ needs. old ++ needs) (sym (needs_both line first second))

-- the names of attributes are their own units
pub constant_value : units_of_utf8 (codes "ConstantValue") ≡ codes "ConstantValue"
unfolding units_of_utf8 chars
constant_value = refl

pub code_name : units_of_utf8 (codes "Code") ≡ codes "Code"
unfolding units_of_utf8 chars
code_name = refl

pub map_name : units_of_utf8 (codes "StackMapTable") ≡ codes "StackMapTable"
unfolding units_of_utf8 chars
map_name = refl
