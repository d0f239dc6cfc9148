-- What assembles is in the profile of class files.
use Rattle.std.proofs.Common.{◌≡◌, ℕ, ◌+◌, List, [], ◌∷◌, ◌++◌, Bool, true, false, Ok, length, refl, sym, subst, arith}
use Rattle.std.specs.Prelude.{flat_map}
use Rattle.std.specs.List.{AllByRecursion, list_all}
use Rattle.std.specs.Str.{is_utf8}
use Rattle.std.proofs.lemmas.Bool.{and_parts}
use Rattle.jv_model.specs.ClassData.{ClassData}
use Rattle.jv_model.specs.Lines.{Line, lines_of, words_of}
use Rattle.jv_model.specs.Profile.{BeginsWithGap, FitsConst, IsAttr, IsClassIndex, IsField, IsInProfile, IsMethod, IsU2, IsU4}
use Rattle.jv_model.specs.Refusal.{LineKind, not_text, open_block, wrong_head}
use Rattle.jv_model.specs.Utf16.{units_of_utf8}
use Rattle.text_model.specs.LineFaults.{at_line, first_fault, is_text, unless_true}
use Rattle.text_model.specs.Words.{word_at}
use Rattle.assembler_model.specs.AssemblerLines.{NumberedLine}
use Rattle.assembler_model.specs.AssemblerOrder.{Part, block_faults, outside_faults, part_faults, parts_of}
use Rattle.assembler_model.specs.AssembledClass.{all_of, assembled, assembled_lines, attribute_of, begin_faults, class_said, code_of, default_flags, faults_behind_head, faults_of_part, field_of, flags_of, head_faults, interface_of, is_head, method_of, said_faults_of}
use Rattle.assembler_model.specs.CodeFaults.{code_faults}
use Rattle.assembler_model.specs.PoolEntries.{Entry}
use Rattle.assembler_model.specs.PoolNeeds.{Need, all_needs, line_entries, needs_by, part_needs}
use Rattle.assembler_model.specs.AssemblerPool.{const_of, entries_of, pool_faults, pool_of}
use Rattle.assembler_laws.specs.Laws.{FitsNumbers, HaveLengths}
use Rattle.assembler_laws.proofs.FaultLemmas.{neither, none_of, none_there, none_told, test_holds}
use Rattle.assembler_laws.proofs.FitLemmas.{entries_fit}
use Rattle.assembler_laws.proofs.KnownLemmas.{class_there, is_known, needs_known, pool_fits}
use Rattle.assembler_laws.proofs.ListLemmas.{all_given, all_some, at_all}
use Rattle.assembler_laws.proofs.MemberLemmas.{BlockKnown, PartIsRight, attribute_is, field_is, flags_fit, interface_is, method_is}
use Rattle.assembler_laws.proofs.NeedLemmas.{all_pass, block_pass, part_pass, text_pass}
use Rattle.assembler_laws.proofs.PartLemmas.{FitsPart, parts_fit}
use Rattle.assembler_laws.proofs.PoolLemmas.{class_named, gaps_right, pool_right}
use Rattle.assembler_laws.proofs.TextLemmas.{AreUnits, utf8_bytes}
use Rattle.assembler_laws.proofs.WordLemmas.{word_units, words_fit}

-- ---- parts

block_known : (entries : List Entry) (block : List NumberedLine)
    → all_pass (is_known entries) (needs_by line_entries block) ≡ true → BlockKnown entries block
block_known entries [] known = tt
block_known entries (first ∷ rest) known = block_pass (is_known entries) first rest known

part_right : (entries : List Entry) (last : ℕ) (part : Part) → FitsPart part
    → all_pass (is_known entries) (part_needs part) ≡ true → faults_of_part entries last part ≡ [] → PartIsRight entries part
part_right entries last part fits known none =
    let said = said_faults_of part.line part.line.said in
    let own = part_faults last part in
    let begin = begin_faults part.block in
    let a = neither (said ++ own ++ begin) (code_faults (code_of entries part)) none in
    let b = neither (said ++ own) begin a.0 in
    let d = neither said own b.0 in
    let e = neither (block_faults part part.block) (at_line last (unless_true part.is_closed open_block)) d.1 in
    let needs = part_pass (is_known entries) part known in
    record {
      line = fits.line;
      block = fits.block;
      line_known = needs.0;
      block_known = block_known entries part.block needs.1;
      is_closed = test_holds last open_block part.is_closed e.1;
      order = e.0;
      begin = b.1;
    }

parts_right : (entries : List Entry) (last : ℕ) (parts : List Part) → AllByRecursion FitsPart parts
    → list_all (λ part. all_pass (is_known entries) (part_needs part)) parts ≡ true
    → AllByRecursion (λ part. faults_of_part entries last part ≡ []) parts → AllByRecursion (PartIsRight entries) parts
parts_right entries last [] fit known none = tt
parts_right entries last (part ∷ parts) fit known none =
    let here = and_parts (all_pass (is_known entries) (part_needs part)) _ known in
    (part_right entries last part fit.0 here.0 none.0, parts_right entries last parts fit.1 here.1 none.1)

-- ---- the first line

head_is_text : (test : Bool) (others : List LineKind) → at_line 1 (unless_true test not_text ++ others) ≡ [] → test ≡ true
head_is_text true others none = refl
head_is_text false others none = absurd cc

name_fits : (head : Line) (k : ℕ) → head_faults head ≡ [] → AreUnits (units_of_utf8 (word_at (words_of head.bytes) k))
name_fits head k none =
    let text = head_is_text (is_text head) (unless_true (is_head (words_of head.bytes)) wrong_head) none in
    word_units (words_of head.bytes) k
    (words_fit head.bytes (utf8_bytes head.bytes (and_parts head.is_ended (is_utf8 head.bytes) text).1))

-- ---- the class

-- the pool begins with a gap, and what stands behind it fits
pool_begins : (needs : List Need)
    → AllByRecursion FitsConst (flat_map (const_of (entries_of needs)) (entries_of needs)) → BeginsWithGap (pool_of (entries_of needs))
unfolding pool_of
pool_begins needs fit = (gaps_right (entries_of needs) (entries_of needs), fit)

class_is : (this super : List ℕ) (last : ℕ) (parts : List Part) → AreUnits this → AreUnits super → AllByRecursion FitsPart parts
    → faults_behind_head last this super parts (entries_of (all_needs this super parts)) ≡ []
    → FitsNumbers (class_said this super parts (entries_of (all_needs this super parts)))
    → IsInProfile (class_said this super parts (entries_of (all_needs this super parts)))
class_is this super last parts first second fit none numbers =
    let needs = all_needs this super parts in
    let entries = entries_of needs in
    let pool = pool_of entries in
    let a = neither (outside_faults 0 parts ++ pool_faults entries needs) (flat_map (faults_of_part entries last) parts) none in
    let b = neither (outside_faults 0 parts) (pool_faults entries needs) a.0 in
    let known = text_pass (is_known entries) this super parts (needs_known needs b.1) in
    let right = parts_right entries last parts fit known.2 (none_of (faults_of_part entries last) parts a.1) in
    let this_there = class_there entries this known.0 in
    let super_there = class_there entries super known.1 in
    let default : IsU2 default_flags = omega arith in
    let minor : IsU2 0 = omega arith in
    let entries_fit = pool_fits needs (entries_fit this super parts first second fit) b.1 in
    record {
      minor = minor;
      major = refl;
      pool = record { entries = pool_begins needs entries_fit; names_right = pool_right needs };
      flags = at_all IsU2 (all_of (λ part. flags_of) parts) 0 default_flags
          (all_some (PartIsRight entries) IsU2 (λ part. flags_of part.line.said) parts right
          (λ part is. flags_fit part.line.said is.line.said)) default;
      this_class = (this_there.index, class_named entries this this_there.there);
      super_class = (super_there.index, class_named entries super super_there.there);
      interfaces = all_some (PartIsRight entries) (IsClassIndex pool) (λ part. interface_of entries part.line.said) parts right
          (λ part is. interface_is entries part.line.said is.line_known);
      fields = all_given (PartIsRight entries) (λ field. HaveLengths field.attributes) (IsField pool)
          (λ part. field_of entries part.line.said) parts right numbers.fields
          (λ part is. field_is entries part.line.said is.line.said is.line_known);
      methods = all_given (PartIsRight entries) (λ method. HaveLengths method.attributes) (IsMethod pool)
          (λ part. method_of entries part part.line.said) parts right numbers.methods
          (λ part is. method_is entries part part.line.said refl is);
      attributes = all_given (PartIsRight entries) (λ attribute. IsU4 (length attribute.bytes)) (IsAttr pool)
          (λ part. attribute_of entries part.line.said) parts right numbers.attributes
          (λ part is. attribute_is entries part.line.said is.line.said is.line_known);
    }

by_lines : (lines : List Line) (class : ClassData) → assembled_lines lines ≡ Ok class → FitsNumbers class → IsInProfile class
by_lines [] class is numbers = absurd cc
by_lines (head ∷ lines) class is numbers =
    let this = units_of_utf8 (word_at (words_of head.bytes) 1) in
    let super = units_of_utf8 (word_at (words_of head.bytes) 3) in
    let parts = parts_of lines in
    let entries = entries_of (all_needs this super parts) in
    let last = length lines + 1 in
    let faults = faults_behind_head last this super parts entries in
    let told = none_told (first_fault (head_faults head ++ faults)) (class_said this super parts entries) class is in
    let none = neither (head_faults head) faults (none_there (head_faults head ++ faults) told.0) in
    subst IsInProfile told.1
    (class_is this super last parts (name_fits head 1 none.0) (name_fits head 3 none.0) (parts_fit lines) none.1
    (subst FitsNumbers (sym told.1) numbers))

-- what assembles is in the profile, where its lengths can be written
pub in_profile : (text : List ℕ) (class : ClassData) → assembled text ≡ Ok class → FitsNumbers class → IsInProfile class
unfolding assembled
in_profile text class is numbers = by_lines (lines_of text) class is numbers
