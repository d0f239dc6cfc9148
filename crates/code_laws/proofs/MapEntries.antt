-- The entries of a stack map, as they stand in it.
use Rattle.std.proofs.Common.{ℕ, ◌-◌, eqb, leb, List}
use Rattle.jv_model.specs.Refusal.{Cause}
use Rattle.code_model.specs.StackMapEntries.{EntryType, Entry, same, same_with_item, chop, append, full, entry_of, entry_type_at, entry_types_at, with_item_at, append_at, full_at, extended_at, typed_at, entry_at}
use Rattle.class_laws.proofs.Readers.{Spelling, Reads, Then, Reads-then, Nothing, Reads-ok, Made, Reads-map, Many, number_reads}
use Rattle.code_laws.proofs.Signed.{Number}
use Rattle.code_laws.proofs.MapTypes.{If, Reads-if, Never, Reads-never, TypeRead, type_reads, types_reads}

abbrev pub with_item : ℕ → EntryType → Entry
with_item delta item = entry_of delta (same_with_item item)

abbrev pub with_more : ℕ → List EntryType → Entry
with_more delta types = entry_of delta (append types)

abbrev pub with_all : ℕ → List EntryType → List EntryType → Entry
with_all delta locals stack = entry_of delta (full locals stack)

abbrev pub Full : ℕ → Spelling Entry
Full delta =
    Then (Number 2) (λ local_count. Then (Many TypeRead local_count)
    (λ locals. Then (Number 2)
    (λ stack_count. Made (with_all delta locals) (Many TypeRead stack_count))))

-- a full frame is read
full_reads : (unknown : Cause) (delta : ℕ) → Reads (full_at unknown delta) (Full delta)
full_reads unknown delta =
    Reads-then _ (number_reads 2) (λ local_count.
    Reads-then _ (types_reads unknown local_count) (λ locals.
    Reads-then _ (number_reads 2) (λ stack_count.
    Reads-map (entry_types_at unknown stack_count) (Many TypeRead stack_count)
    (with_all delta locals) (types_reads unknown stack_count))))

-- behind the type of an entry and its offset_delta
abbrev pub Extended : ℕ → ℕ → Spelling Entry
Extended type delta =
    If (eqb type 247) (Made (with_item delta) TypeRead)
    (If (leb type 250) (Nothing (entry_of delta (chop (251 - type))))
    (If (eqb type 251) (Nothing (entry_of delta same))
    (If (leb type 254) (Made (with_more delta) (Many TypeRead (type - 251))) (Full delta))))

-- one item is read
item_reads :
    (unknown : Cause) (delta : ℕ)
    → Reads (with_item_at unknown delta) (Made (with_item delta) TypeRead)
item_reads unknown delta =
    Reads-map (entry_type_at unknown) TypeRead (with_item delta) (type_reads unknown)

-- more locals are read
more_reads :
    (unknown : Cause) (count delta : ℕ)
    → Reads (append_at unknown count delta) (Made (with_more delta) (Many TypeRead count))
more_reads unknown count delta =
    Reads-map (entry_types_at unknown count) (Many TypeRead count) (with_more delta)
    (types_reads unknown count)

-- what stands behind a type with an offset_delta is read
extended_reads :
    (unknown : Cause) (type delta : ℕ)
    → Reads (extended_at unknown type delta) (Extended type delta)
unfolding extended_at
extended_reads unknown type delta =
    Reads-if (eqb type 247) _ _ _ _ (item_reads unknown delta) (
    Reads-if (leb type 250) _ _ _ _ (Reads-ok (entry_of delta (chop (251 - type)))) (
    Reads-if (eqb type 251) _ _ _ _ (Reads-ok (entry_of delta same)) (
    Reads-if (leb type 254) _ _ _ _ (more_reads unknown (type - 251) delta)
    (full_reads unknown delta))))

-- behind the type of an entry
abbrev pub Typed : ℕ → Spelling Entry
Typed type =
    If (leb type 63) (Nothing (entry_of type same))
    (If (leb type 127) (Made (with_item (type - 64)) TypeRead)
    (If (leb type 246) Never (Then (Number 2) (Extended type))))

-- what stands behind a type is read
typed_reads : (unknown : Cause) (type : ℕ) → Reads (typed_at unknown type) (Typed type)
unfolding typed_at
typed_reads unknown type =
    Reads-if (leb type 63) _ _ _ _ (Reads-ok (entry_of type same)) (
    Reads-if (leb type 127) _ _ _ _ (item_reads unknown (type - 64)) (
    Reads-if (leb type 246) _ _ _ _ (Reads-never unknown) (
    Reads-then _ (number_reads 2) (λ delta. extended_reads unknown type delta))))

abbrev pub EntryRead : Spelling Entry
EntryRead = Then (Number 1) Typed

-- an entry is read
pub entry_reads : (unknown : Cause) → Reads (entry_at unknown) EntryRead
entry_reads unknown = Reads-then _ (number_reads 1) (λ type. typed_reads unknown type)
