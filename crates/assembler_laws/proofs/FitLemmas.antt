-- The entries that a text needs fit a class file.
use Rattle.std.proofs.Common.{◌≡◌, ℕ, List, [], ◌∷◌, ◌++◌, Bool, true, false, Option, Some, None, Result, Ok, fold, refl, arith}
use Rattle.std.specs.Prelude.{FitsSigned, IfOk, IfSome, codes, flat_map, if◌then◌else◌, nat_lt}
use Rattle.std.specs.Int.{w32, w64}
use Rattle.std.specs.List.{AllByRecursion, list_all, list_any}
use Rattle.std.proofs.lemmas.Bool.{ltb-true}
use Rattle.jv_model.specs.Profile.{IsU2}
use Rattle.jv_model.specs.Refusal.{LineKind}
use Rattle.assembler_model.specs.AssemblerTerms.{AssemblerLine, ConstantText, FrameType, Operation, attribute, catch, field, frame, implements, load_constant, load_long, method, object_type, of_class, of_int, of_long, of_member, of_string, operation, stack_is}
use Rattle.assembler_model.specs.AssemblerLines.{NumberedLine}
use Rattle.assembler_model.specs.AssemblerOrder.{Part}
use Rattle.assembler_model.specs.PoolEntries.{Entry, class_entry, int_entry, long_entry, member_entry, name_and_type_entry, same_entry, string_entry, text_entry, with_parts}
use Rattle.assembler_model.specs.PoolNeeds.{Need, all_needs, caught_entries, constant_entry, frame_entries, line_entries, needs_at, needs_by, operation_entries, part_needs, type_entries, value_entries}
use Rattle.assembler_model.specs.AssemblerPool.{entries_of, with_entry}
use Rattle.assembler_laws.proofs.ListLemmas.{all_append, all_flat, all_map, all_weaker, tests_all}
use Rattle.assembler_laws.proofs.PartLemmas.{FitsNumbered, FitsPart}
use Rattle.assembler_laws.proofs.TermLemmas.{FitsConstant, FitsLine, FitsOperation, FitsReference, FitsType, FitsValue}
use Rattle.assembler_laws.proofs.TextLemmas.{AreUnits}

abbrev pub FitsEntry : Entry → Type 0
FitsEntry (text_entry text) = AreUnits text
FitsEntry (int_entry value) = FitsSigned w32 value
FitsEntry (long_entry value) = FitsSigned w64 value
FitsEntry (class_entry name) = AreUnits name
FitsEntry (string_entry text) = AreUnits text
FitsEntry (name_and_type_entry name descriptor) = AreUnits name × AreUnits descriptor
FitsEntry (member_entry kind reference) = FitsReference reference

abbrev FitAll : List Entry → Type 0
FitAll entries = AllByRecursion FitsEntry entries

parts_fit : (entry : Entry) → FitsEntry entry → FitAll (with_parts entry)
unfolding with_parts
parts_fit (text_entry text) fits = (fits, tt)
parts_fit (int_entry value) fits = (fits, tt)
parts_fit (long_entry value) fits = (fits, tt)
parts_fit (class_entry name) fits = (fits, (fits, tt))
parts_fit (string_entry text) fits = (fits, (fits, tt))
parts_fit (name_and_type_entry name descriptor) fits = (fits.0, (fits.1, (fits, tt)))
parts_fit (member_entry kind reference) fits =
    (fits.0, (fits.0, (fits.1, (fits.2, ((fits.1, fits.2), (fits, tt))))))

-- ---- what lines need

-- a name of small units
name_fits : (text : List ℕ) → list_all (λ unit. nat_lt unit 65536) text ≡ true → FitsEntry (text_entry text)
name_fits text small =
    all_weaker (λ unit. nat_lt unit 65536 ≡ true) IsU2 text (λ unit is. omega (arith, ltb-true unit 65536 is))
    (tests_all (λ unit. nat_lt unit 65536) text small)

constant_fits : (constant : ConstantText) → FitsConstant constant → FitsEntry (constant_entry constant)
constant_fits (of_int value) fits = fits
constant_fits (of_long value) fits = fits
constant_fits (of_string text) fits = fits

value_fits : (descriptor : List ℕ) (value : Option ConstantText) → IfSome value (FitsValue descriptor) → FitAll (value_entries value)
value_fits descriptor None fits = tt
value_fits descriptor (Some constant) fits = (name_fits (codes "ConstantValue") refl, (constant_fits constant fits.0, tt))

operation_fits : (said : Operation) → FitsOperation said → FitAll (operation_entries said)
operation_fits (of_member opcode kind reference) fits = (fits.1, tt)
operation_fits (of_class opcode name) fits = (fits.1, tt)
operation_fits (load_constant constant) fits = (constant_fits constant fits, tt)
operation_fits (load_long value) fits = (fits, tt)
operation_fits other fits = tt

line_fits : (said : Result AssemblerLine LineKind) → IfOk said FitsLine → FitAll (line_entries said)
line_fits (Ok (implements name)) fits = (fits, tt)
line_fits (Ok (field flags name descriptor value)) fits = (fits.1, (fits.2, value_fits descriptor value fits.3))
line_fits (Ok (method flags name descriptor)) fits = (fits.1, (fits.2, tt))
line_fits (Ok (stack_is stack locals)) fits = (name_fits (codes "Code") refl, tt)
line_fits (Ok (operation said)) fits = operation_fits said fits
line_fits (Ok (attribute name bytes)) fits = (fits.0, tt)
line_fits other fits = tt

caught_fit : (said : Result AssemblerLine LineKind) → IfOk said FitsLine → FitAll (caught_entries said)
caught_fit (Ok (catch from to target (Some name))) fits = (fits, tt)
caught_fit other fits = tt

type_fits : (type : FrameType) → FitsType type → FitAll (type_entries type)
type_fits (object_type name) fits = (fits, tt)
type_fits other fits = tt

types_fit : (types : List FrameType) → AllByRecursion FitsType types → FitAll (flat_map type_entries types)
types_fit types fit =
    all_flat FitsEntry type_entries types (all_weaker FitsType (λ type. FitAll (type_entries type)) types type_fits fit)

frame_fits : (said : Result AssemblerLine LineKind) → IfOk said FitsLine → FitAll (frame_entries said)
frame_fits (Ok (frame locals stack)) fits = (
  name_fits (codes "StackMapTable") refl,
  all_append FitsEntry (flat_map type_entries locals) (flat_map type_entries stack) (types_fit locals fits.0) (types_fit stack fits.1),
)
frame_fits other fits = tt

-- ---- what a text needs

abbrev FitsNeed : Need → Type 0
FitsNeed need = FitsEntry need.entry

abbrev FitNeeds : List Need → Type 0
FitNeeds needs = AllByRecursion FitsNeed needs

at_fit : (number : ℕ) (entries : List Entry) → FitAll entries → FitNeeds (needs_at number entries)
at_fit number entries fit = all_map FitsNeed (λ entry. record { line = number; entry = entry }) entries fit

by_fit : (entries : Result AssemblerLine LineKind → List Entry) (lines : List NumberedLine)
    → ((said : Result AssemblerLine LineKind) → IfOk said FitsLine → FitAll (entries said)) → AllByRecursion FitsNumbered lines
    → FitNeeds (needs_by entries lines)
by_fit entries lines each fit =
    all_flat FitsNeed (λ line. needs_at line.number (entries line.said)) lines
    (all_weaker FitsNumbered (λ line. FitNeeds (needs_at line.number (entries line.said))) lines
    (λ line fits. at_fit line.number (entries line.said) (each line.said fits.said)) fit)

part_needs_fit : (part : Part) → FitsPart part → FitNeeds (part_needs part)
part_needs_fit part fits =
    let first = needs_by line_entries (part.line ∷ part.block) in
    let second = needs_by caught_entries part.block in
    let third = needs_by frame_entries part.block in
    all_append FitsNeed (first ++ second) third
    (all_append FitsNeed first second (by_fit line_entries (part.line ∷ part.block) line_fits (fits.line, fits.block))
    (by_fit caught_entries part.block caught_fit fits.block))
    (by_fit frame_entries part.block frame_fits fits.block)

needs_fit : (this super : List ℕ) (parts : List Part) → AreUnits this → AreUnits super → AllByRecursion FitsPart parts
    → FitNeeds (all_needs this super parts)
needs_fit this super parts first second fit =
    all_append FitsNeed (needs_at 1 (class_entry this ∷ class_entry super ∷ [])) (flat_map part_needs parts)
    (at_fit 1 (class_entry this ∷ class_entry super ∷ []) (first, (second, tt)))
    (all_flat FitsNeed part_needs parts (all_weaker FitsPart (λ part. FitNeeds (part_needs part)) parts part_needs_fit fit))

-- ---- the entries of the pool

with_fit : (test : Bool) (entries : List Entry) (entry : Entry) → FitAll entries → FitsEntry entry
    → FitAll (if test then entries else entries ++ entry ∷ [])
with_fit true entries entry fit fits = fit
with_fit false entries entry fit fits = all_append FitsEntry entries (entry ∷ []) fit (fits, tt)

fold_fit : (entries more : List Entry) → FitAll entries → FitAll more → FitAll (fold with_entry entries more)
fold_fit entries [] fit more = fit
fold_fit entries (entry ∷ others) fit more =
    fold_fit (with_entry entries entry) others (with_fit (list_any (same_entry entry) entries) entries entry fit more.0) more.1

-- each entry of a text fits
pub entries_fit : (this super : List ℕ) (parts : List Part) → AreUnits this → AreUnits super → AllByRecursion FitsPart parts
    → AllByRecursion FitsEntry (entries_of (all_needs this super parts))
unfolding entries_of
entries_fit this super parts first second fit =
    let needs = all_needs this super parts in
    fold_fit [] (flat_map (λ need. with_parts need.entry) needs) tt
    (all_flat FitsEntry (λ need. with_parts need.entry) needs
    (all_weaker FitsNeed (λ need. FitAll (with_parts need.entry)) needs (λ need fits. parts_fit need.entry fits)
    (needs_fit this super parts first second fit)))
