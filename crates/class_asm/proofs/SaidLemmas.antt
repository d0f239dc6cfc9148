-- What lines outside methods say, part by part.
use Rattle.std.proofs.Common.{◌≡◌, ℕ, zero, suc, ◌+◌, ◌<◌, length, get_or, take, add-one, arith, List, [], ◌∷◌, ◌++◌, Option, Some, None, Result, map, option_map, refl, ap, sym, ◌∙◌}
use Rattle.std.specs.Prelude.{codes, slice_get, unwrap_or}
use Rattle.std.specs.List.{cons_option}
use Rattle.std.proofs.lemmas.List.{map-append}
use Rattle.std.proofs.lemmas.List.Elements.{filter_map-append}
use Rattle.jv_model.specs.Refusal.{LineKind}
use Rattle.assembler_model.specs.AssemblerTerms.{AssemblerLine, ConstantText}
use Rattle.assembler_model.specs.AssemblerOrder.{Part}
use Rattle.assembler_model.specs.AssembledClass.{all_of, attribute_of, default_flags, field_of, flags_of, interface_of, method_of, value_attributes}
use Rattle.assembler_model.specs.AssemblerPool.{index_in}
use Rattle.assembler_model.specs.PoolEntries.{Entry, text_entry}
use Rattle.assembler_model.specs.PoolNeeds.{constant_entry}
use Rattle.jv_model.specs.ClassBytes.{u2}
use Rattle.jv_model.specs.ClassData.{Attr}
use Rattle.jv_types.specs.ClassData.{attrs_of, members_of}
use Rattle.class_asm.specs.Sections.{IsSaid}
use Rattle.asm_parts.specs.Parts.{part_of, parts_of}
use Rattle.asm_parts.specs.declared.part.Part as rows
use Rattle.class_asm.specs.declared.sections.Sections as sections

-- what one part more says
all_more : {A : Type 0} (said : Part → Result AssemblerLine LineKind → Option A) (parts : List Part) (part : Part)
    → all_of said (parts ++ part ∷ []) ≡ all_of said parts ++ cons_option (said part part.line.said) []
all_more said parts part = filter_map-append (λ part. said part part.line.said) parts (part ∷ [])

pub said_next : (entries : List Entry) (parts : List Part) (part : Part) (old new : sections.Sections) → IsSaid entries parts old
    → new.interfaces.items ≡ old.interfaces.items ++ cons_option (interface_of entries part.line.said) []
    → members_of new.fields.items ≡ members_of old.fields.items ++ cons_option (field_of entries part.line.said) []
    → members_of new.methods.items ≡ members_of old.methods.items ++ cons_option (method_of entries part part.line.said) []
    → attrs_of new.attributes.items ≡ attrs_of old.attributes.items ++ cons_option (attribute_of entries part.line.said) []
    → IsSaid entries (parts ++ part ∷ []) new
said_next entries parts part old new before a b d e = record {
  interfaces = a ∙ ap (λ items. items ++ cons_option (interface_of entries part.line.said) []) before.interfaces
      ∙ sym (all_more (λ part. interface_of entries) parts part);
  fields = b ∙ ap (λ items. items ++ cons_option (field_of entries part.line.said) []) before.fields
      ∙ sym (all_more (λ part. field_of entries) parts part);
  methods = d ∙ ap (λ items. items ++ cons_option (method_of entries part part.line.said) []) before.methods
      ∙ sym (all_more (method_of entries) parts part);
  attributes = e ∙ ap (λ items. items ++ cons_option (attribute_of entries part.line.said) []) before.attributes
      ∙ sym (all_more (λ part. attribute_of entries) parts part);
}

one : {A B : Type 0} (view : A → B) (item : Option A) → map view (cons_option item []) ≡ cons_option (option_map view item) []
one view None = refl
one view (Some item) = refl

-- a list that grows by what is there, seen as the definitions see it
pub mapped_more : {A B : Type 0} (view : A → B) (old new : List A) (item : Option A) (said : Option B)
    → new ≡ old ++ cons_option item [] → option_map view item ≡ said
    → map view new ≡ map view old ++ cons_option said []
mapped_more view old new item said is same =
    ap (map view) is ∙ map-append view old (cons_option item [])
    ∙ ap (λ more. map view old ++ more) (one view item) ∙ ap (λ said. map view old ++ cons_option said []) same

pub same_more : {A : Type 0} (old new : List A) (item said : Option A) → new ≡ old ++ cons_option item [] → item ≡ said
    → new ≡ old ++ cons_option said []
same_more old new item said is same = is ∙ ap (λ said. old ++ cons_option said []) same

-- ---- flags

pub first_flags : (part : Part) (parts : List Part) (flags : ℕ) → Some flags ≡ flags_of part.line.said
    → flags ≡ unwrap_or (slice_get (all_of (λ part. flags_of) (part ∷ parts)) 0) default_flags
first_flags part parts flags is = rw (← is) refl

pub later_flags : (part : Part) (parts : List Part) → None ≡ flags_of part.line.said
    → unwrap_or (slice_get (all_of (λ part. flags_of) (part ∷ parts)) 0) default_flags
    ≡ unwrap_or (slice_get (all_of (λ part. flags_of) parts) 0) default_flags
later_flags part parts is = rw (← is) refl

-- ---- parts, one more

take_next : {X : Type 0} (xs : List X) (i : ℕ) (x : X) → i < length xs → x ≡ get_or xs i x → take (suc i) xs ≡ take i xs ++ x ∷ []
take_next [] i x within is = absurd (omega arith)
take_next (y ∷ ys) zero x within is = ap (λ y. y ∷ []) (sym is)
take_next (y ∷ ys) (suc i) x within is = ap (λ xs. y ∷ xs) (take_next ys i x (omega arith) is)

pub parts_more : (parts : List rows.Part) (i : ℕ) (part : rows.Part) → i < length parts → part ≡ get_or parts i part
    → parts_of (take i parts) ++ part_of part ∷ [] ≡ parts_of (take (i + 1) parts)
parts_more parts i part within is =
    rw add-one (sym (ap parts_of (take_next parts i part within is) ∙ map-append part_of (take i parts) (part ∷ [])))

-- ---- a constant value

pub value_is : (entries : List Entry) (constant : ConstantText) (name index : ℕ) (bytes : List ℕ)
    → name ≡ index_in entries (text_entry (codes "ConstantValue")) → index ≡ index_in entries (constant_entry constant)
    → bytes ≡ u2 index → (record { name = name; bytes = bytes } ∷ []) ≡ value_attributes entries (Some constant)
value_is entries constant name index bytes is-name is-index is-bytes =
    let attribute : Attr = record { name = name; bytes = bytes } in
    let same : attribute ≡ record { name = index_in entries (text_entry (codes "ConstantValue")); bytes = u2 (index_in entries (constant_entry constant)) } =
    let all : bytes ≡ u2 (index_in entries (constant_entry constant)) = is-bytes ∙ ap u2 is-index in
    λ i. record { name = is-name i; bytes = all i } in
    ap (λ (attribute : Attr). attribute ∷ []) same
