-- A method has code exactly where its flags ask for it.
use Rattle.std.proofs.Common.{◌≡◌, List, [], ◌∷◌, Bool, true, false, Option, Some, None, Result, Ok, Err, refl}
use Rattle.std.specs.Prelude.{◌&&◌, if◌then◌else◌, codes}
use Rattle.std.specs.List.{list_all}
use Rattle.std.proofs.lemmas.Bool.{and_parts}
use Rattle.jv_model.specs.Refusal.{LineKind}
use Rattle.jv_model.specs.Profile.{code, count_named}
use Rattle.assembler_model.specs.AssemblerTerms.{AssemblerLine, stack_is}
use Rattle.assembler_model.specs.AssemblerLines.{LineForm, NumberedLine, end_form, stack_form}
use Rattle.assembler_model.specs.AssemblerOrder.{Part, begins_method}
use Rattle.assembler_model.specs.AssembledClass.{code_attribute, said_faults_of}
use Rattle.assembler_model.specs.PoolEntries.{Entry, text_entry, with_parts}
use Rattle.assembler_model.specs.PoolNeeds.{line_entries}
use Rattle.assembler_model.specs.AssemblerPool.{pool_of}
use Rattle.assembler_laws.proofs.EntryLemmas.{has, has_all}
use Rattle.assembler_laws.proofs.ValueLemmas.{is_named_text}

-- a line that says something says what its form is for, as far as methods ask
abbrev pub form_right : Option LineForm → Result AssemblerLine LineKind → Bool
form_right form (Err kind) = true
form_right None (Ok said) = false
form_right (Some stack_form) (Ok (stack_is stack locals)) = true
form_right (Some stack_form) (Ok said) = false
form_right (Some end_form) (Ok (stack_is stack locals)) = false
form_right (Some end_form) (Ok said) = true
form_right (Some form) (Ok said) = true

pub closed_asks : (asks closed : Bool) → (asks && closed) ≡ false → closed ≡ true → asks ≡ false
closed_asks true true is closed = absurd cc
closed_asks true false is closed = absurd cc
closed_asks false closed is is-closed = refl

named_once : (entries : List Entry) → list_all (has_all entries) (text_entry (codes "Code") ∷ []) ≡ true
    → has entries (text_entry (codes "Code")) ≡ true
unfolding with_parts
named_once entries there =
    (and_parts (has entries (text_entry (codes "Code"))) true (and_parts (has_all entries (text_entry (codes "Code"))) true there).0).0

-- the code of a method whose block begins with this line
pub first_code : (entries : List Entry) (part : Part) (line : NumberedLine) (form : Option LineForm) (said : Result AssemblerLine LineKind) (asks : Bool)
    → begins_method asks form ≡ true → said_faults_of line said ≡ [] → form_right form said ≡ true
    → list_all (has_all entries) (line_entries said) ≡ true
    → count_named (pool_of entries) code (code_attribute entries part said) ≡ (if asks then 1 else 0)
first_code entries part line form (Err kind) asks begins none right there = absurd cc
first_code entries part line None (Ok said) asks begins none right there = absurd cc
first_code entries part line (Some stack_form) (Ok (stack_is stack locals)) true begins none right there =
    rw (is_named_text entries (codes "Code") (named_once entries there)) refl
first_code entries part line (Some stack_form) (Ok (stack_is stack locals)) false begins none right there = absurd cc
first_code entries part line (Some stack_form) (Ok said) asks begins none right there = absurd cc
first_code entries part line (Some end_form) (Ok (stack_is stack locals)) asks begins none right there = absurd cc
first_code entries part line (Some end_form) (Ok said) true begins none right there = absurd cc
first_code entries part line (Some end_form) (Ok said) false begins none right there = refl
first_code entries part line (Some form) (Ok said) asks begins none right there = absurd cc
