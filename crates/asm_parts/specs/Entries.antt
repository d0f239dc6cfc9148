-- Entries of the constant pool as the definitions see them.
use Rattle.std.specs.Prelude.{ℕ, ◌+◌, List, [], ◌∷◌, Bool, true, ◌&&◌, map, fold}
use Rattle.std.specs.Borrow.{Bor}
use Rattle.std.specs.Str.{is_utf8}
use Rattle.assembler_model.specs.PoolEntries as model
use Rattle.assembler_model.specs.AssemblerPool.{indices_of}
use Rattle.asm_lines.specs.Terms.{name_of, kind_of, reference_of}
use Rattle.asm_lines.specs.declared.term.MemberReference.{MemberReference}
use Rattle.asm_parts.specs.declared.entry.Entry.{Entry}
use Rattle.asm_parts.specs.declared.entry.Entry.TheVariants.{Text, Int, Long, Class, String, NameAndType, Member}

abbrev pub entry_of : Entry → model.Entry
entry_of (Text text) = model.text_entry (name_of text)
entry_of (Int value) = model.int_entry value
entry_of (Long value) = model.long_entry value
entry_of (Class name) = model.class_entry (name_of name)
entry_of (String text) = model.string_entry (name_of text)
entry_of (NameAndType name descriptor) = model.name_and_type_entry (name_of name) (name_of descriptor)
entry_of (Member kind reference) = model.member_entry (kind_of kind) (reference_of reference)

abbrev pub entries_of : List Entry → List model.Entry
entries_of entries = map entry_of entries

-- ---- the bytes of its names are UTF-8

abbrev pub is_text : Bor (List ℕ) → Bool
is_text text = is_utf8 text.now

abbrev pub has_texts : Entry → Bool
has_texts (Text text) = is_text text
has_texts (Int value) = true
has_texts (Long value) = true
has_texts (Class name) = is_text name
has_texts (String text) = is_text text
has_texts (NameAndType name descriptor) = is_text name && is_text descriptor
has_texts (Member kind reference) = is_text reference.class && (is_text reference.name && is_text reference.descriptor)

-- ---- the indices of entries

-- where each has its index, where the first of these has this one
abbrev pub starts : ℕ → List model.Entry → List ℕ
starts index [] = []
starts index (entry ∷ entries) = index ∷ starts (index + indices_of entry) entries

-- the index behind all
abbrev pub behind : ℕ → List model.Entry → ℕ
behind index [] = index
behind index (entry ∷ entries) = behind (index + indices_of entry) entries
