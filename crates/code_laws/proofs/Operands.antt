-- What stands behind an opcode: what is read is spelled so, where its targets are places; and
-- what is spelled so is read.
use Rattle.std.proofs.Common.{◌≡◌, ℕ, ◌+◌, false, ◌&&◌, eqb, List, [], ◌++◌, Option, Some, None, Ok, refl, sym, ap, subst, ◌∙◌, arith, IsTrue}
use Rattle.std.specs.Prelude.{unwrap_or, option_map}
use Rattle.std.specs.List.{AllByRecursion}
use Rattle.std.proofs.lemmas.Bool.{eqb-true, and_parts, and_from, eq-eqb}
use Rattle.jv_model.specs.Input.{Input, number_at}
use Rattle.jv_model.specs.ClassData.{ClassData}
use Rattle.jv_model.specs.ClassBytes.{u1, u2}
use Rattle.jv_model.specs.Flow.{targets_of}
use Rattle.jv_model.specs.Instruction.{Instruction, PrimitiveType, push_int, ldc, increment, newarray, invokeinterface}
use Rattle.code_model.specs.Names.{argument_words}
use Rattle.code_model.specs.Entries.{EntryKind, a_loadable, a_method_of_interface}
use Rattle.code_model.specs.Formats.{Branch, on_zero, on_ints, on_references, on_null, always, branch_to, Format, alone, byte_constant, short_constant, loadable_index, wide_loadable_index, local, local_and_constant, branch, wide_branch, table_switch, lookup_switch, pool_index, interface_call, element_type, wide_form, left_out, left_out_local, primitive_of}
use Rattle.code_model.specs.Opcodes.{format_of}
use Rattle.code_model.specs.OperandReading.{Site, Read, signed_at, target_at, entry_at, constant_at, index_at, local_at, increment_at, branch_at, interface_call_at, is_argument_count, newarray_of, newarray_at}
use Rattle.code_model.specs.InstructionReading.{operands_at, wide_operands_at}
use Rattle.code_model.specs.SpellsOperands.{signed_bytes, SpellsOperands, SpellsConstant, SpellsIndex, SpellsLocal, SpellsIncrement, SpellsBranch, SpellsInterfaceCall, SpellsNewarray, SpellsWide, SpellsWidened}
use Rattle.class_laws.proofs.Numbers.{IsBytes, Takes}
use Rattle.class_laws.proofs.Readers.{Spelling, Taken, FoundAt, Reads, Reads-as, Then, Reads-then, Nothing, Reads-ok, Made, Reads-map, Holding, where_ends, number_reads, spelt_then, spelt_last}
use Rattle.code_laws.proofs.Signed.{Number, IsWidth, one_byte, two_bytes, four_bytes, Signed, signed_reads, Led, target_reads, IsPlace}
use Rattle.code_laws.proofs.Entries.{Index, entry_reads}
use Rattle.code_laws.proofs.Targets.{led_is_near, near_is_led}
use Rattle.code_laws.proofs.Switches.{Table, table_reads, table_spelled, spelled_table, Lookup, lookup_reads, lookup_spelled, spelled_lookup}
use Rattle.code_laws.proofs.OpcodeBytes.{format_byte, primitive_byte}

-- where its branches lead are places
abbrev pub ArePlaces : Instruction ℕ → Type 0
ArePlaces instruction = AllByRecursion IsPlace (targets_of instruction)

-- ---- a constant, an entry, a local

abbrev Constant : ℕ → Spelling (Instruction ℕ)
Constant count at text x = SpellsConstant count text x

-- a constant is read as it's spelled
constant_reads : (count : ℕ) → IsWidth count → Reads (constant_at count) (Constant count)
constant_reads count width =
    Reads-as (Reads-map (signed_at count) (Signed count) push_int (signed_reads count width))
    (λ at text x s. (s.0, s.1.right, s.1.text_is, s.2))
    (λ at text x s. (s.0, record { text_is = s.2; right = s.1 }, s.3))

abbrev IndexOf : ClassData → EntryKind → ℕ → (ℕ → Instruction ℕ) → Spelling (Instruction ℕ)
IndexOf file kind count make at text x = SpellsIndex file kind count make text x

-- an index is read as it's spelled
index_reads :
    (site : Site) (kind : EntryKind) (count : ℕ) (make : ℕ → Instruction ℕ)
    → Reads (index_at site kind count make) (IndexOf site.file kind count make)
index_reads site kind count make =
    Reads-as (Reads-map (entry_at site kind count) (Index site.file kind count) make
    (entry_reads site kind count))
    (λ at text x s. (s.0, (s.1.0.right, s.1.1), s.1.0.text_is, s.2))
    (λ at text x s. (s.0, (record { text_is = s.2; right = s.1.0 }, s.1.1), s.3))

abbrev Local : ℕ → (ℕ → Instruction ℕ) → Spelling (Instruction ℕ)
Local count make at text x = SpellsLocal count make text x

-- a local is read as it's spelled
local_reads :
    (count : ℕ) (make : ℕ → Instruction ℕ) → Reads (local_at count make) (Local count make)
local_reads count make =
    Reads-as (Reads-map (number_at count) (Number count) make (number_reads count))
    (λ at text x s. (s.0, s.1.right, s.1.text_is, s.2))
    (λ at text x s. (s.0, record { text_is = s.2; right = s.1 }, s.3))

abbrev Increment : ℕ → Spelling (Instruction ℕ)
Increment count at text x = SpellsIncrement count text x

abbrev LocalAndConstant : ℕ → Spelling (Instruction ℕ)
LocalAndConstant count = Then (Number count) (λ index. Made (increment index) (Signed count))

-- a local and a constant, one behind the other
spelled_increment :
    (count at : ℕ) (text : List ℕ) (x : Instruction ℕ) → SpellsIncrement count text x
    → LocalAndConstant count at text x
spelled_increment count at text x (index, added, index_fits, added_fits, bytes_are, made) =
    rw bytes_are (spelt_then index (signed_bytes count added) index_fits
    (added, record { text_is = refl; right = added_fits }, made))

-- a local and what is added to it are read as they're spelled
increment_reads : (count : ℕ) → IsWidth count → Reads (increment_at count) (Increment count)
increment_reads count width =
    Reads-as (Reads-then _ (number_reads count) (λ index.
    Reads-map (signed_at count) (Signed count) (increment index) (signed_reads count width)))
    (λ at text x s. (
      s.first,
      s.others.0,
      s.spelled.right,
      s.others.1.right,
      rw (s.parts, s.spelled.text_is, s.others.1.text_is) refl,
      s.others.2,
    ))
    (λ at text x s. spelled_increment count at text x s)

-- ---- `invokeinterface`

-- the count that is right is the count of the words
counted_words :
    (words : Option ℕ) (count last : ℕ)
    → IsTrue (unwrap_or (option_map (λ (w : ℕ). eqb count w) words) false && eqb last 0)
    → (words ≡ Some count) × (last ≡ 0)
counted_words None count last is = absurd cc
counted_words (Some words) count last is =
    let both = and_parts (eqb count words) (eqb last 0) is in
    (ap Some (sym (eqb-true count words both.0)), eqb-true last 0 both.1)

-- the count of the words is right
words_counted :
    (words : Option ℕ) (count : ℕ) → words ≡ Some count
    → IsTrue (unwrap_or (option_map (λ (w : ℕ). eqb count w) words) false && eqb 0 0)
words_counted words count e = rw e (and_from _ _ (eq-eqb count count refl) refl)

abbrev IndexAndCount : ClassData → Spelling (Instruction ℕ)
IndexAndCount file =
    Then (Index file a_method_of_interface 2) (λ index. Then (Number 1) (λ count.
    Then (Number 1) (λ last.
    Holding (IsTrue (is_argument_count file index count && eqb last 0))
    (Nothing (invokeinterface index)))))

abbrev InterfaceCall : ClassData → Spelling (Instruction ℕ)
InterfaceCall file at text x = SpellsInterfaceCall file text x

-- an index, a count and a zero byte that were read
interface_call_spelled :
    (file : ClassData) (at : ℕ) (text : List ℕ) (x : Instruction ℕ) → IndexAndCount file at text x
    → SpellsInterfaceCall file text x
interface_call_spelled file at text x spelled =
    let count = spelled.others in
    let last = count.others in
    let is =
    counted_words (argument_words file.pool spelled.first) count.first last.first last.others.0
    in
    let end : last.front ≡ u1 0 = last.spelled.text_is ∙ ap (λ (n : ℕ). u1 n) is.1 in (
      spelled.first,
      count.first,
      (spelled.spelled.0.right, spelled.spelled.1),
      is.0,
      count.spelled.right,
      rw (
        spelled.parts,
        count.parts,
        last.parts,
        spelled.spelled.0.text_is,
        count.spelled.text_is,
        end,
        last.others.1.0,
      ) refl,
      last.others.1.1,
    )

-- an index, a count and a zero byte, one behind the other
spelled_interface_call :
    (file : ClassData) (at : ℕ) (text : List ℕ) (x : Instruction ℕ)
    → SpellsInterfaceCall file text x
    → IndexAndCount file at text x
spelled_interface_call file at text x
    (index, words, (fits, is), has_words, count_fits, bytes_are, made) = record {
      first = index;
      front = u2 index;
      rest = u1 words ++ u1 0;
      parts = bytes_are;
      spelled = (record { text_is = refl; right = fits }, is);
      others =
          spelt_then words (u1 0) count_fits (spelt_last 0 (omega arith)
          (words_counted (argument_words file.pool index) words has_words, (refl, made)));
    }

-- a call of an interface's method is read as it's spelled
interface_call_reads : (site : Site) → Reads (interface_call_at site) (InterfaceCall site.file)
unfolding interface_call_at
interface_call_reads site =
    Reads-as (Reads-then _ (entry_reads site a_method_of_interface 2) (λ index.
    Reads-then _ (number_reads 1) (λ count.
    Reads-then _ (number_reads 1) (λ last.
    where_ends (is_argument_count site.file index count && eqb last 0) _ (invokeinterface index)))))
    (λ at text x s. interface_call_spelled site.file at text x s)
    (λ at text x s. spelled_interface_call site.file at text x s)

-- ---- `newarray`

abbrev TypeOf : Option PrimitiveType → Spelling (Instruction ℕ)
TypeOf found at text x =
    (type : PrimitiveType) × (found ≡ Some type) × (text ≡ []) × (x ≡ newarray type)

-- the array type that a number stands for, if it does
type_reads :
    (site : Site) (found : Option PrimitiveType) → Reads (newarray_of site found) (TypeOf found)
type_reads site None = record {
  takes = λ input x e fits. absurd cc;
  finds = λ at text x spelled more. let e = spelled.1 in absurd cc;
}
type_reads site (Some type) =
    Reads-as (Reads-ok (newarray type)) (λ at text x s. (type, refl, s.0, s.1))
    (λ at text x s. let e : type ≡ s.0 = cc in (s.2, s.3 ∙ sym (ap (λ t. newarray t) e)))

abbrev Newarray : Spelling (Instruction ℕ)
Newarray at text x = SpellsNewarray text x

abbrev NumberOfType : Spelling (Instruction ℕ)
NumberOfType = Then (Number 1) (λ number. TypeOf (primitive_of number))

-- the number of an array type
spelled_newarray :
    (at : ℕ) (text : List ℕ) (x : Instruction ℕ) → SpellsNewarray text x → NumberOfType at text x
spelled_newarray at text x (number, type, is, bytes_are, made) =
    rw bytes_are (spelt_last number (primitive_byte number type is) (type, is, refl, made))

-- `newarray` is read as it's spelled
newarray_reads : (site : Site) → Reads (newarray_at site) Newarray
newarray_reads site =
    Reads-as (Reads-then _ (number_reads 1) (λ number. type_reads site (primitive_of number)))
    (λ at text x s.
    (s.first, s.others.0, s.others.1, rw (s.parts, s.spelled.text_is, s.others.2) refl, s.others.3))
    spelled_newarray

-- ---- `wide`

abbrev Wide : Option Format → Spelling (Instruction ℕ)
Wide format at text x = SpellsWide format text x

-- what is never read spells nothing
never_reads :
    (read : Input → Read) → ((input : Input) (x : Instruction ℕ × Input) → read input ≡ Ok x → ⊥)
    → Reads read (λ at text x. ⊥)
never_reads read never = record {
  takes = λ input x e fits. absurd (never input x e);
  finds = λ at text x spelled more. absurd spelled;
}

-- behind `wide` only the formats with a local are read
wide_reads :
    (site : Site) (format : Option Format) → Reads (wide_operands_at site format) (Wide format)
wide_reads site None = never_reads _ (λ input x e. cc)
wide_reads site (Some (alone its)) = never_reads _ (λ input x e. cc)
wide_reads site (Some byte_constant) = never_reads _ (λ input x e. cc)
wide_reads site (Some short_constant) = never_reads _ (λ input x e. cc)
wide_reads site (Some loadable_index) = never_reads _ (λ input x e. cc)
wide_reads site (Some wide_loadable_index) = never_reads _ (λ input x e. cc)
wide_reads site (Some (local make)) = local_reads 2 make
wide_reads site (Some local_and_constant) = increment_reads 2 two_bytes
wide_reads site (Some (branch its)) = never_reads _ (λ input x e. cc)
wide_reads site (Some (wide_branch its)) = never_reads _ (λ input x e. cc)
wide_reads site (Some table_switch) = never_reads _ (λ input x e. cc)
wide_reads site (Some lookup_switch) = never_reads _ (λ input x e. cc)
wide_reads site (Some (pool_index kind make)) = never_reads _ (λ input x e. cc)
wide_reads site (Some interface_call) = never_reads _ (λ input x e. cc)
wide_reads site (Some element_type) = never_reads _ (λ input x e. cc)
wide_reads site (Some wide_form) = never_reads _ (λ input x e. cc)
wide_reads site (Some left_out) = never_reads _ (λ input x e. cc)
wide_reads site (Some left_out_local) = never_reads _ (λ input x e. cc)

-- what is spelled behind `wide` has a format
wide_format :
    (format : Option Format) (text : List ℕ) (x : Instruction ℕ) → SpellsWide format text x
    → (its : Format) × (format ≡ Some its)
wide_format None text x spelled = absurd spelled
wide_format (Some format) text x spelled = (format, refl)

abbrev Widened : Spelling (Instruction ℕ)
Widened at text x = SpellsWidened text x

abbrev OpcodeAndWide : Spelling (Instruction ℕ)
OpcodeAndWide = Then (Number 1) (λ opcode. Wide (format_of opcode))

-- an opcode, and what `wide` makes of what stands behind it
spelled_widened :
    (at : ℕ) (text : List ℕ) (x : Instruction ℕ) → SpellsWidened text x → OpcodeAndWide at text x
spelled_widened at text x (opcode, rest, bytes_are, spelled) =
    let format = wide_format (format_of opcode) rest x spelled in
    rw bytes_are (spelt_then opcode rest (format_byte opcode format.0 format.1) spelled)

-- ---- each format

abbrev pub Operands : Site → Option Format → Spelling (Instruction ℕ)
Operands site format at text x = SpellsOperands site.file site.pc format text x

-- Operands behind an opcode that stands at a place are read as they are spelled.
pub record OperandsAreRead (site : Site) (format : Option Format) : Type 0 where
  pub takes :
      (input : Input) (x : Instruction ℕ × Input) → operands_at site format input ≡ Ok x
      → IsBytes input.bytes → input.at ≡ site.pc + 1 → IsPlace site.pc → ArePlaces x.0
      → Taken (Operands site format) input x
  -- whatever its targets are, what was read was taken from the front
  pub fronts :
      (input : Input) (x : Instruction ℕ × Input) → operands_at site format input ≡ Ok x
      → IsBytes input.bytes → (text : List ℕ) × Takes input text x.1
  pub finds :
      (text : List ℕ) (x : Instruction ℕ) → SpellsOperands site.file site.pc format text x
      → FoundAt (operands_at site format) (site.pc + 1) text x

-- by a reader of them
are_read :
    (site : Site) (format : Option Format) (Spells : Spelling (Instruction ℕ))
    → Reads (operands_at site format) Spells
    → ((text : List ℕ) (x : Instruction ℕ) → IsPlace site.pc → ArePlaces x → Spells
    (site.pc + 1) text x
    → SpellsOperands site.file site.pc format text x)
    → ((text : List ℕ) (x : Instruction ℕ) → SpellsOperands site.file site.pc format text x
    → Spells (site.pc + 1) text x)
    → OperandsAreRead site format
are_read site format Spells reads to from = record {
  takes = λ input x e fits here place places.
      let taken = reads.takes input x e fits in
      let spelled = subst (λ (at : ℕ). Spells at taken.text x.0) here taken.spelled in
      record {
        text = taken.text;
        takes = taken.takes;
        spelled = to taken.text x.0 place places spelled;
      };
  fronts = λ input x e fits. let taken = reads.takes input x e fits in (taken.text, taken.takes);
  finds = λ text x spelled. reads.finds (site.pc + 1) text x (from text x spelled);
}

-- by a reader of what is spelled, wherever it stands
are_spelled :
    (site : Site) (format : Option Format) → Reads (operands_at site format) (Operands site format)
    → OperandsAreRead site format
are_spelled site format reads =
    are_read site format (Operands site format) reads (λ text x place places s. s) (λ text x s. s)

-- the target of a branch that leads to a place
branch_target :
    (its : Branch) (target : ℕ) (x : Instruction ℕ) → x ≡ branch_to its target → ArePlaces x
    → IsPlace target
unfolding targets_of
branch_target its target x is places = one its (subst ArePlaces is places)
  where
    one : (its : Branch) → ArePlaces (branch_to its target) → IsPlace target
    one (on_zero comparison) its = its.0
    one (on_ints comparison) its = its.0
    one (on_references equal) its = its.0
    one (on_null equal) its = its.0
    one always its = its.0

abbrev BranchAt : ℕ → ℕ → Branch → Spelling (Instruction ℕ)
BranchAt pc count its = Made (branch_to its) (Led pc count)

-- the offset of a branch is read
branch_reads :
    (site : Site) (count : ℕ) (its : Branch) → IsWidth count
    → Reads (branch_at site count its) (BranchAt site.pc count its)
branch_reads site count its width =
    Reads-map (target_at site count) (Led site.pc count) (branch_to its)
    (target_reads site count width)

-- a branch that is read is spelled, where it leads to a place
branch_spelled :
    (pc count at : ℕ) (its : Branch) → IsWidth count → (text : List ℕ) (x : Instruction ℕ)
    → IsPlace pc
    → ArePlaces x → BranchAt pc count its at text x → SpellsBranch pc count its text x
branch_spelled pc count at its width text x here places s =
    let near =
    led_is_near pc count width here at text s.0 (branch_target its s.0 x s.2 places) s.1 in
    (s.0, near.1, near.0, s.2)

-- a branch that is spelled is read
spelled_branch :
    (pc count at : ℕ) (its : Branch) (text : List ℕ) (x : Instruction ℕ)
    → SpellsBranch pc count its text x
    → BranchAt pc count its at text x
spelled_branch pc count at its text x (target, near, bytes_are, made) = (
  target,
  subst (λ (t : List ℕ). Led pc count at t target) (sym bytes_are)
      (near_is_led pc count at target near),
  made,
)

-- what stands behind an opcode of each format is read as it's spelled
pub operands_are_read : (site : Site) (format : Option Format) → OperandsAreRead site format
operands_are_read site None = are_spelled site None (never_reads _ (λ input x e. cc))
operands_are_read site (Some (alone its)) = are_spelled site _ (Reads-ok its)
operands_are_read site (Some byte_constant) = are_spelled site _ (constant_reads 1 one_byte)
operands_are_read site (Some short_constant) = are_spelled site _ (constant_reads 2 two_bytes)
operands_are_read site (Some loadable_index) =
    are_spelled site _ (index_reads site a_loadable 1 ldc)
operands_are_read site (Some wide_loadable_index) =
    are_spelled site _ (index_reads site a_loadable 2 ldc)
operands_are_read site (Some (local make)) = are_spelled site _ (local_reads 1 make)
operands_are_read site (Some local_and_constant) = are_spelled site _ (increment_reads 1 one_byte)
operands_are_read site (Some (branch its)) =
    are_read site _ _ (branch_reads site 2 its two_bytes)
    (λ text x place places s. branch_spelled site.pc 2 _ its two_bytes text x place places s)
    (λ text x s. spelled_branch site.pc 2 _ its text x s)
operands_are_read site (Some (wide_branch its)) =
    are_read site _ _ (branch_reads site 4 its four_bytes)
    (λ text x place places s. branch_spelled site.pc 4 _ its four_bytes text x place places s)
    (λ text x s. spelled_branch site.pc 4 _ its text x s)
operands_are_read site (Some table_switch) =
    are_read site _ (Table site.pc) (table_reads site)
    (λ text x place places s. table_spelled site.pc (site.pc + 1) text x place refl places s)
    (λ text x s. spelled_table site.pc text x s)
operands_are_read site (Some lookup_switch) =
    are_read site _ (Lookup site.pc) (lookup_reads site)
    (λ text x place places s. lookup_spelled site.pc (site.pc + 1) text x place refl places s)
    (λ text x s. spelled_lookup site.pc text x s)
operands_are_read site (Some (pool_index kind make)) =
    are_spelled site _ (index_reads site kind 2 make)
operands_are_read site (Some interface_call) = are_spelled site _ (interface_call_reads site)
operands_are_read site (Some element_type) = are_spelled site _ (newarray_reads site)
operands_are_read site (Some wide_form) =
    are_spelled site _
    (Reads-as (Reads-then _ (number_reads 1) (λ opcode. wide_reads site (format_of opcode)))
    (λ at text x s. (s.first, s.rest, rw (s.parts, s.spelled.text_is) refl, s.others))
    spelled_widened)
operands_are_read site (Some left_out) = are_spelled site _ (never_reads _ (λ input x e. cc))
operands_are_read site (Some left_out_local) = are_spelled site _ (never_reads _ (λ input x e. cc))
