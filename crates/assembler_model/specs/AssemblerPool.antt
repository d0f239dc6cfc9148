-- The constant pool of an assembled class (JVMS 4.4): entries in the order of their first need. An equal entry is
-- shared, and parts come before the entry that names them.
use Rattle.std.specs.Prelude.{ℕ, ◌+◌, List, [], ◌∷◌, ◌++◌, Bool, if◌then◌else◌, nat_lt, fold, flat_map}
use Rattle.std.specs.List.{list_any}
use Rattle.jv_model.specs.Refusal.{out_of_range}
use Rattle.jv_model.specs.ClassData.{Const, gap, utf8, integer, long, class, string, fieldref, methodref, interface_methodref, name_and_type}
use Rattle.text_model.specs.LineFaults.{Fault, where_true, at_line}
use Rattle.text_model.specs.Numerals.{most_u2}
use Rattle.assembler_model.specs.AssemblerTerms.{ReferenceKind, to_field, to_method, to_interface_method}
use Rattle.assembler_model.specs.PoolEntries.{Entry, class_entry, int_entry, long_entry, member_entry, name_and_type_entry, same_entry, string_entry, text_entry, with_parts}
use Rattle.assembler_model.specs.PoolNeeds.{Need}

-- the entries with one more, unless it is there
abbrev pub with_entry : List Entry → Entry → List Entry
with_entry entries entry = if list_any (same_entry entry) entries then entries else entries ++ entry ∷ []

-- the pool's entries, each where it is first needed
unfoldable pub entries_of : List Need → List Entry
entries_of needs = fold with_entry [] (flat_map (λ need. with_parts need.entry) needs)

-- a Long takes two indices
abbrev pub indices_of : Entry → ℕ
indices_of (long_entry value) = 2
indices_of other = 1

-- the index of an entry, where the first of these has this one
unfoldable pub index_from : ℕ → List Entry → Entry → ℕ
index_from index [] entry = index
index_from index (other ∷ others) entry =
    if same_entry other entry then index else index_from (index + indices_of other) others entry

-- the index of an entry of the pool
abbrev pub index_in : List Entry → Entry → ℕ
index_in entries entry = index_from 1 entries entry

-- a reference to a class and to a name and type
abbrev pub reference_const : ReferenceKind → ℕ → ℕ → Const
reference_const to_field owner pair = fieldref owner pair
reference_const to_method owner pair = methodref owner pair
reference_const to_interface_method owner pair = interface_methodref owner pair

-- an entry as it stands in the file
abbrev pub const_of : List Entry → Entry → List Const
const_of entries (text_entry text) = utf8 text ∷ []
const_of entries (int_entry value) = integer value ∷ []
const_of entries (long_entry value) = long value ∷ gap ∷ []
const_of entries (class_entry name) = class (index_in entries (text_entry name)) ∷ []
const_of entries (string_entry text) = string (index_in entries (text_entry text)) ∷ []
const_of entries (name_and_type_entry name descriptor) =
    name_and_type (index_in entries (text_entry name)) (index_in entries (text_entry descriptor)) ∷ []
const_of entries (member_entry kind reference) =
    reference_const kind (index_in entries (class_entry reference.class))
    (index_in entries (name_and_type_entry reference.name reference.descriptor)) ∷ []

-- by index, so that it begins with a gap
unfoldable pub pool_of : List Entry → List Const
pool_of entries = gap ∷ flat_map (const_of entries) entries

-- an entry or a part of it has too great an index
abbrev pub is_too_far : List Entry → Entry → Bool
is_too_far entries entry = list_any (λ part. nat_lt most_u2 (index_in entries part)) (with_parts entry)

-- An index too great is told at each line that needs it.
abbrev pub pool_faults : List Entry → List Need → List Fault
pool_faults entries needs =
    flat_map (λ need. at_line need.line (where_true (is_too_far entries need.entry) out_of_range)) needs
