-- The constant value of a field, and the names of attributes.
use Rattle.std.proofs.Common.{◌≡◌, ℕ, ◌<◌, ◌^◌, arith, List, true, length, ap, ◌∙◌}
use Rattle.std.specs.Prelude.{◌&&◌, ◌==◌, not, codes}
use Rattle.std.specs.List.{list_any}
use Rattle.std.proofs.lemmas.Bool.{or_right}
use Rattle.byteorder.specs.Endian.{big_number}
use Rattle.jv_model.specs.ClassBytes.{u2}
use Rattle.jv_model.specs.ConstantPool.{has_tag, has_units, is_named, names_one_of, units_at, units_in}
use Rattle.jv_model.specs.Profile.{is_value_right, value_tags}
use Rattle.assembler_model.specs.PoolEntries.{Entry, text_entry}
use Rattle.assembler_model.specs.AssemblerPool.{index_in, pool_of}
use Rattle.assembler_laws.proofs.EntryLemmas.{bytes_self, has}
use Rattle.assembler_laws.proofs.IndexLemmas.{at_index, first_const}

-- the index of a text names that text
pub is_named_text : (entries : List Entry) (text : List ℕ) → has entries (text_entry text) ≡ true
    → is_named (pool_of entries) text (index_in entries (text_entry text)) ≡ true
is_named_text entries text there = ap (λ constant. has_units constant text) (at_index entries (text_entry text) there) ∙ bytes_self text

pub units_text : (entries : List Entry) (text : List ℕ) → has entries (text_entry text) ≡ true
    → units_at (pool_of entries) (index_in entries (text_entry text)) ≡ text
units_text entries text there = ap units_in (at_index entries (text_entry text) there)

-- two bytes hold an index, and are read back as that
index_read : (n : ℕ) → n < 2 ^ 16 → big_number 2 (u2 n) ≡ n
index_read n fits = omega arith

-- a field's constant value is of a kind that its descriptor takes
pub value_right : (entries : List Entry) (descriptor : List ℕ) (constant : Entry) (name : ℕ)
    → has entries (text_entry descriptor) ≡ true → has entries constant ≡ true → index_in entries constant < 2 ^ 16
    → list_any (has_tag (first_const entries constant)) (value_tags descriptor) ≡ true
    → is_value_right (pool_of entries) (index_in entries (text_entry descriptor)) (record { name = name; bytes = u2 (index_in entries constant) }) ≡ true
value_right entries descriptor constant name text there fits takes =
    let tags : names_one_of (pool_of entries) (value_tags (units_at (pool_of entries) (index_in entries (text_entry descriptor))))
    (big_number 2 (u2 (index_in entries constant))) ≡ true =
    ap (λ units. names_one_of (pool_of entries) (value_tags units) (big_number 2 (u2 (index_in entries constant)))) (units_text entries descriptor text)
    ∙ ap (names_one_of (pool_of entries) (value_tags descriptor)) (index_read (index_in entries constant) fits)
    ∙ ap (λ constant. list_any (has_tag constant) (value_tags descriptor)) (at_index entries constant there) ∙ takes in
    or_right (not (is_named (pool_of entries) (codes "ConstantValue") name))
    ((length (u2 (index_in entries constant)) == 2) && names_one_of (pool_of entries)
    (value_tags (units_at (pool_of entries) (index_in entries (text_entry descriptor)))) (big_number 2 (u2 (index_in entries constant)))) tags
