-- The fields, methods, interfaces and attributes of what assembles are those of a class file.
use Rattle.std.proofs.Common.{◌≡◌, ℕ, ◌+◌, ◌≤◌, List, [], ◌∷◌, Bool, true, false, cond, drop, Option, Some, None, Result, Ok, length, refl, ap, ◌∙◌, arith}
use Rattle.std.specs.Prelude.{◌&&◌, IfOk, IfSome, codes, if◌then◌else◌}
use Rattle.std.specs.List.{AllByRecursion, list_all, list_any}
use Rattle.std.proofs.lemmas.Bool.{and_parts}
use Rattle.jv_model.specs.ClassBytes.{u2}
use Rattle.jv_model.specs.ClassData.{Attr}
use Rattle.jv_model.specs.ConstantPool.{has_tag}
use Rattle.jv_model.specs.Profile.{IsAttr, IsClassIndex, IsField, IsMember, IsMethod, IsU2, IsU4, code, constant_value, count_named, is_value_right, value_tags}
use Rattle.jv_model.specs.Refusal.{LineKind, wrong_order}
use Rattle.assembler_model.specs.AssemblerTerms.{AssemblerLine, ConstantText, attribute, field, flags_are, implements, method, of_int, of_long, of_string, stack_is}
use Rattle.assembler_model.specs.AssemblerLines.{NumberedLine}
use Rattle.assembler_model.specs.AssemblerOrder.{Part, asks_code, begins_method, block_faults}
use Rattle.assembler_model.specs.AssembledClass.{attribute_of, begin_faults, code_attribute, code_attributes, code_of, field_of, flags_of, interface_of, member, method_of, value_attributes}
use Rattle.assembler_model.specs.PoolEntries.{Entry, class_entry, text_entry}
use Rattle.assembler_model.specs.PoolNeeds.{constant_entry, line_entries, value_entries}
use Rattle.assembler_model.specs.AssemblerPool.{index_in, pool_of}
use Rattle.assembler_model.specs.CodeLines.{at_start}
use Rattle.assembler_model.specs.CodeBytes.{code_bytes}
use Rattle.assembler_laws.specs.Laws.{HaveLengths}
use Rattle.assembler_laws.proofs.CodeLemmas.{code_is}
use Rattle.assembler_laws.proofs.EntryLemmas.{has_all}
use Rattle.assembler_laws.proofs.FaultLemmas.{test_fails, test_holds}
use Rattle.assembler_laws.proofs.IndexLemmas.{first_const}
use Rattle.assembler_laws.proofs.KnownLemmas.{IsThere, class_there, constant_there, is_known, text_there}
use Rattle.assembler_laws.proofs.ListLemmas.{all_drop}
use Rattle.assembler_laws.proofs.MethodLemmas.{closed_asks, first_code}
use Rattle.assembler_laws.proofs.NumberLemmas.{bytes_fit}
use Rattle.assembler_laws.proofs.PartLemmas.{FitsNumbered}
use Rattle.assembler_laws.proofs.PoolLemmas.{class_named, text_named}
use Rattle.assembler_laws.proofs.TermLemmas.{FitsLine, FitsValue}
use Rattle.assembler_laws.proofs.TextLemmas.{AreBytes}
use Rattle.assembler_laws.proofs.ValueLemmas.{value_right}

-- all of some entries are known
abbrev pub are_known : List Entry → List Entry → Bool
are_known entries needed = list_all (is_known entries) needed

-- the first of them, and the others
first_known : (entries : List Entry) (entry : Entry) (others : List Entry) → are_known entries (entry ∷ others) ≡ true
    → (is_known entries entry ≡ true) × (are_known entries others ≡ true)
first_known entries entry others known = and_parts (is_known entries entry) (are_known entries others) known

-- two of them, and the others
two_known : (entries : List Entry) (name descriptor : List ℕ) (others : List Entry)
    → are_known entries (text_entry name ∷ text_entry descriptor ∷ others) ≡ true
    → IsThere entries (text_entry name) × IsThere entries (text_entry descriptor) × (are_known entries others ≡ true)
two_known entries name descriptor others known =
    let a = first_known entries (text_entry name) (text_entry descriptor ∷ others) known in
    let b = first_known entries (text_entry descriptor) others a.1 in
    (text_there entries name a.0, text_there entries descriptor b.0, b.1)

attr_is : (entries : List Entry) (name bytes : List ℕ) → IsThere entries (text_entry name) → IsU4 (length bytes) → AreBytes bytes
    → IsAttr (pool_of entries) (record { name = index_in entries (text_entry name); bytes = bytes })
attr_is entries name bytes there short fit =
    record { name = (there.index, text_named entries name there.there); bytes = (short, fit) }

member_is : (entries : List Entry) (flags : ℕ) (name descriptor : List ℕ) (attributes : List Attr) → IsU2 flags
    → IsThere entries (text_entry name) → IsThere entries (text_entry descriptor)
    → AllByRecursion (IsAttr (pool_of entries)) attributes
    → IsMember (pool_of entries) (member entries flags name descriptor attributes)
member_is entries flags name descriptor attributes fits first second all = record {
  flags = fits;
  name = (first.index, text_named entries name first.there);
  descriptor = (second.index, text_named entries descriptor second.there);
  attributes = all;
}

-- ---- flags and interfaces

pub flags_fit : (said : Result AssemblerLine LineKind) → IfOk said FitsLine → IfSome (flags_of said) IsU2
flags_fit (Ok (flags_are flags)) fits = fits
flags_fit other fits = tt

pub interface_is : (entries : List Entry) (said : Result AssemblerLine LineKind) → are_known entries (line_entries said) ≡ true
    → IfSome (interface_of entries said) (IsClassIndex (pool_of entries))
interface_is entries (Ok (implements name)) known =
    let there = class_there entries name (first_known entries (class_entry name) [] known).0 in
    (there.index, class_named entries name there.there)
interface_is entries other known = tt

-- ---- fields

takes_entry : (entries : List Entry) (descriptor : List ℕ) (constant : ConstantText) → FitsValue descriptor constant
    → list_any (has_tag (first_const entries (constant_entry constant))) (value_tags descriptor) ≡ true
takes_entry entries descriptor (of_int value) fits = fits.1
takes_entry entries descriptor (of_long value) fits = fits.1
takes_entry entries descriptor (of_string text) fits = fits.1

values_are : (entries : List Entry) (descriptor : List ℕ) (value : Option ConstantText) → IfSome value (FitsValue descriptor)
    → IsThere entries (text_entry descriptor) → are_known entries (value_entries value) ≡ true
    → list_all (is_value_right (pool_of entries) (index_in entries (text_entry descriptor))) (value_attributes entries value) ≡ true
values_are entries descriptor None fits there known = refl
values_are entries descriptor (Some constant) fits there known =
    let entry = constant_entry constant in
    let a = first_known entries (text_entry (codes "ConstantValue")) (entry ∷ []) known in
    let is = constant_there entries constant (first_known entries entry [] a.1).0 in
    rw (value_right entries descriptor entry (index_in entries (text_entry (codes "ConstantValue"))) there.there is.there is.index
    (takes_entry entries descriptor constant fits)) refl

by_named : (test : Bool) → 0 + cond test 1 0 ≤ 1
by_named true = omega arith
by_named false = omega arith

one_value : (entries : List Entry) (value : Option ConstantText)
    → count_named (pool_of entries) constant_value (value_attributes entries value) ≤ 1
one_value entries None = omega arith
one_value entries (Some constant) = by_named _

value_attrs : (entries : List Entry) (value : Option ConstantText) → are_known entries (value_entries value) ≡ true
    → HaveLengths (value_attributes entries value) → AllByRecursion (IsAttr (pool_of entries)) (value_attributes entries value)
value_attrs entries None known lengths = tt
value_attrs entries (Some constant) known lengths =
    let entry = constant_entry constant in
    let a = first_known entries (text_entry (codes "ConstantValue")) (entry ∷ []) known in (
      attr_is entries (codes "ConstantValue") (u2 (index_in entries entry)) (text_there entries (codes "ConstantValue") a.0) lengths.0
          (bytes_fit 2 (index_in entries entry)),
      tt,
    )

pub field_is : (entries : List Entry) (said : Result AssemblerLine LineKind) → IfOk said FitsLine
    → are_known entries (line_entries said) ≡ true
    → IfSome (field_of entries said) (λ field. HaveLengths field.attributes → IsField (pool_of entries) field)
field_is entries (Ok (field flags name descriptor value)) fits known =
    let there = two_known entries name descriptor (value_entries value) known in
    λ lengths. record {
      member = member_is entries flags name descriptor (value_attributes entries value) fits.0 there.0 there.1
          (value_attrs entries value there.2 lengths);
      values = values_are entries descriptor value fits.3 there.1 there.2;
      at_most_one = one_value entries value;
    }
field_is entries other fits known = tt

-- ---- methods

-- what is known is there
are_there : (entries needed : List Entry) → are_known entries needed ≡ true → list_all (has_all entries) needed ≡ true
are_there entries [] known = refl
are_there entries (entry ∷ others) known =
    let parts = first_known entries entry others known in
    rw ((and_parts (has_all entries entry) _ parts.0).0, are_there entries others parts.1) refl

-- the code that a block's first line begins
code_attr : (entries : List Entry) (part : Part) (said : Result AssemblerLine LineKind) → AllByRecursion FitsNumbered part.block
    → are_known entries (line_entries said) ≡ true → HaveLengths (code_attribute entries part said)
    → AllByRecursion (IsAttr (pool_of entries)) (code_attribute entries part said)
code_attr entries part (Ok (stack_is stack locals)) fit known lengths = (
  attr_is entries (codes "Code") (code_bytes entries stack locals (code_of entries part))
      (text_there entries (codes "Code") (first_known entries (text_entry (codes "Code")) [] known).0) lengths.0
      (code_is entries stack locals at_start (drop 1 part.block) (all_drop FitsNumbered 1 part.block fit)),
  tt,
)
code_attr entries part other fit known lengths = tt

-- what the first line of a method's block needs is known
abbrev pub BlockKnown : List Entry → List NumberedLine → Type 0
BlockKnown entries [] = Unit {0}
BlockKnown entries (first ∷ rest) = are_known entries (line_entries first.said) ≡ true

code_attrs : (entries : List Entry) (part : Part) (block : List NumberedLine) → AllByRecursion FitsNumbered part.block
    → BlockKnown entries block → HaveLengths (code_attributes entries part block)
    → AllByRecursion (IsAttr (pool_of entries)) (code_attributes entries part block)
code_attrs entries part [] fit known lengths = tt
code_attrs entries part (first ∷ rest) fit known lengths = code_attr entries part first.said fit known lengths

one_code : (entries : List Entry) (part : Part) (block : List NumberedLine) → AllByRecursion FitsNumbered block
    → BlockKnown entries block → part.is_closed ≡ true → block_faults part block ≡ [] → begin_faults block ≡ []
    → count_named (pool_of entries) code (code_attributes entries part block) ≡ (if asks_code part.line.said then 1 else 0)
one_code entries part [] fit known closed faults begin =
    let none = test_fails (part.line.number + 1) wrong_order (asks_code part.line.said && part.is_closed) faults in
    rw (closed_asks (asks_code part.line.said) part.is_closed none closed) refl
one_code entries part (first ∷ rest) fit known closed faults begin =
    first_code entries part first first.form first.said (asks_code part.line.said)
    (test_holds first.number wrong_order (begins_method (asks_code part.line.said) first.form) faults) begin fit.0.form
    (are_there entries (line_entries first.said) known)

-- what is known of a part of a text without a fault
pub record PartIsRight (entries : List Entry) (part : Part) : Type 0 where
  pub line : FitsNumbered part.line
  pub block : AllByRecursion FitsNumbered part.block
  pub line_known : are_known entries (line_entries part.line.said) ≡ true
  pub block_known : BlockKnown entries part.block
  pub is_closed : part.is_closed ≡ true
  pub order : block_faults part part.block ≡ []
  pub begin : begin_faults part.block ≡ []

pub method_is : (entries : List Entry) (part : Part) (said : Result AssemblerLine LineKind) → part.line.said ≡ said
    → PartIsRight entries part
    → IfSome (method_of entries part said) (λ method. HaveLengths method.attributes → IsMethod (pool_of entries) method)
method_is entries part (Ok (method flags name descriptor)) is right =
    let fits = rw is at right.line.said in
    let known = rw is at right.line_known in
    let there = two_known entries name descriptor [] known in
    λ lengths. record {
      member = member_is entries flags name descriptor (code_attributes entries part part.block) fits.0 there.0 there.1
          (code_attrs entries part part.block right.block right.block_known lengths);
      one_code = one_code entries part part.block right.block right.block_known right.is_closed right.order right.begin
          ∙ ap (λ said. if asks_code said then 1 else 0) is;
    }
method_is entries part other is right = tt

-- ---- attributes

pub attribute_is : (entries : List Entry) (said : Result AssemblerLine LineKind) → IfOk said FitsLine
    → are_known entries (line_entries said) ≡ true
    → IfSome (attribute_of entries said) (λ attribute. IsU4 (length attribute.bytes) → IsAttr (pool_of entries) attribute)
attribute_is entries (Ok (attribute name bytes)) fits known =
    let there = text_there entries name (first_known entries (text_entry name) [] known).0 in
    λ short. attr_is entries name bytes there short fits.1
attribute_is entries other fits known = tt
