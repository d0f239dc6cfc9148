-- The lines of a manifest, statement by statement, and its first line.
use Rattle.std.proofs.Common.{◌≡◌, ℕ, ◌+◌, ◌≤◌, ◌<◌, List, [], ◌∷◌, ◌++◌, Bool, true, false, Option, Some, None, Result, Ok, Err, length, map, refl, ap, sym, ◌∙◌, append_assoc, arith}
use Rattle.std.specs.Prelude.{nat_lt, bytes_eq, codes, count_by, filter_map, if◌then◌else◌, is_some, option_map, option_to_list, slice_get, unwrap_or, IsErrAnd, MatchResult}
use Rattle.std.specs.Borrow.{Bor}
use Rattle.std.proofs.lemmas.List.{append-nil, map-append}
use Rattle.jv_model.specs.Lines.{Line, lines_of}
use Rattle.jv_model.specs.Fallible.{unless}
use Rattle.jv_model.specs.Refusal.{LineKind, not_text, wrong_head, wrong_main}
use Rattle.text_model.specs.LineFaults.{Fault, at_line, first_fault, is_text, unless_true}
use Rattle.assembler_model.specs.Blocks.{cut}
use Rattle.manifest_model.specs.Manifest as model
use Rattle.manifest_model.specs.Manifest.{is_main, manifest_faults, manifest_of, manifest_of_lines, manifest_said}
use Rattle.manifest_laws.specs.Faults.{chunks_from, faults_from}
use Rattle.manifest_laws.proofs.FaultLemmas.{first-told}
use Rattle.manifest_laws.proofs.StatementLemmas.{faults_end, head_no_text, head_right, head_wrong}
use Rattle.asm_parts.specs.Faults.{fault_of}
use Rattle.asm_parts.specs.declared.first_fault.LineFault.{LineFault}
use Rattle.manifest_reader.specs.declared.error.ManifestError.{ManifestError}
use Rattle.manifest_reader.specs.declared.error.ManifestError.TheVariants as errors
use Rattle.manifest_reader.specs.declared.item.ManifestItem as declared
use Rattle.manifest_reader.specs.declared.manifest.Manifest.{Manifest}
use Rattle.manifest_reader.specs.declared.seen.Seen.{Seen}
use Rattle.manifest_reader.specs.declared.statement.Statement.{Statement}
use Rattle.manifest_reader.specs.Heads.{IsBehindHead, fault_told, head_fault, head_kind}
use Rattle.manifest_reader.specs.Items.{item_of, name_of}
use Rattle.manifest_reader.specs.Statements.{IsSeen, IsStatement, Reading, ReadsBehind, ReadsLines, ReadsStatement, TellsManifest, behind_fault, item_said, main_said, mains, manifest_view}

-- ---- the statements so far

-- What was read of these lines, and what is left of them.
pub record InLines (all : List Line) (seen : Seen) (items : List declared.ManifestItem) (last : ℕ) (left : List Line) : Type 0 where
  pub before : List Reading
  pub seen_are : IsSeen before seen
  pub faults_are : first_fault (faults_from (length all + 1) before (last + 1) left) ≡ behind_fault all
  pub mains_are : mains seen ++ filter_map main_said (chunks_from (last + 1) left) ≡ filter_map main_said (chunks_from 2 all)
  pub items_are : map item_of items ++ filter_map item_said (chunks_from (last + 1) left) ≡ filter_map item_said (chunks_from 2 all)
  pub end_is : last + length left ≡ length all + 1

pub lines_none : (all : List Line) (seen : Seen) → IsSeen [] seen → mains seen ≡ [] → InLines all seen [] 1 all
lines_none all seen is none =
    record {
      before = [];
      seen_are = is;
      faults_are = refl;
      mains_are = rw none;
      items_are = refl;
      end_is = omega arith;
    }

view-append : (items : List declared.ManifestItem) (item : Option declared.ManifestItem)
    → map item_of (items ++ option_to_list item) ≡ map item_of items ++ option_to_list (option_map item_of item)
view-append items None = map-append item_of items []
view-append items (Some item) = map-append item_of items (item ∷ [])

pub lines_next : (all : List Line) (seen : Seen) (items more : List declared.ManifestItem) (last : ℕ) (text : List ℕ) (statement : Statement)
    → InLines all seen items last (lines_of text) → ReadsStatement seen last text (Ok statement)
    → more ≡ items ++ option_to_list statement.item → InLines all statement.seen more statement.last (lines_of statement.left.now)
lines_next all seen items more last text statement so_far reads more-is =
    let is = reads so_far.before so_far.seen_are in
    let behind = filter_map item_said (chunks_from (statement.last + 1) (lines_of statement.left.now)) in
    record {
      before = so_far.before ++ Ok is.line ∷ [];
      seen_are = is.seen_are;
      faults_are = rw (← so_far.end_is) (sym is.faults_are) ∙ so_far.faults_are;
      mains_are = sym is.mains_are ∙ so_far.mains_are;
      items_are =
          rw more-is (ap (λ front. front ++ behind) (view-append items statement.item)
          ∙ append_assoc (map item_of items) (option_to_list (option_map item_of statement.item)) behind
          ∙ ap (λ back. map item_of items ++ back) (sym is.items_are) ∙ so_far.items_are);
      end_is = is.end_is ∙ so_far.end_is;
    }

lines_error : (all : List Line) (seen : Seen) (items : List declared.ManifestItem) (last : ℕ) (text : List ℕ) (error : ManifestError)
    → InLines all seen items last (lines_of text) → ReadsStatement seen last text (Err error) → ReadsLines all (Err error)
lines_error all seen items last text (errors.Line fault) so_far reads =
    let told = reads so_far.before so_far.seen_are in
    sym so_far.faults_are ∙ (rw so_far.end_is at told)
lines_error all seen items last text errors.NoMemory so_far reads = tt

-- an error of a statement
pub lines_told : (all : List Line) (seen : Seen) (items : List declared.ManifestItem) (last : ℕ) (text : List ℕ) (error : ManifestError)
    (result : Result Manifest ManifestError) → IsErrAnd result (λ other. other ≡ error)
    → InLines all seen items last (lines_of text) → ReadsStatement seen last text (Err error) → ReadsLines all result
lines_told all seen items last text error (Ok manifest) is so_far reads = absurd is
lines_told all seen items last text error (Err other) is so_far reads = rw is (lines_error all seen items last text error so_far reads)

-- want of memory
pub memory_told : (all : List Line) (result : Result Manifest ManifestError) → IsErrAnd result (λ other. other ≡ errors.NoMemory)
    → ReadsLines all result
memory_told all (Ok manifest) is = absurd is
memory_told all (Err other) is = rw is tt

no_chunks : (n : ℕ) → chunks_from n [] ≡ []
unfolding cut
no_chunks n = refl

no_fault : first_fault [] ≡ None
unfolding first_fault
no_fault = refl

end_with_main : (last : ℕ) (before : List Reading) (n : ℕ) → true ≡ nat_lt 0 (count_by is_main before)
    → first_fault (faults_from last before n []) ≡ None
end_with_main last before n has = ap first_fault (faults_end last before n) ∙ rw (← has) no_fault

-- the end of the text, where a line named the main class
pub lines_end : (all : List Line) (seen : Seen) (main : Bor (List ℕ)) (manifest : Manifest) (last : ℕ) (left : List Line)
    → InLines all seen manifest.items.items last left → left ≡ [] → seen.main ≡ Some main → manifest.main ≡ main
    → ReadsLines all (Ok manifest)
lines_end all seen main manifest last left so_far none has main-is =
    let some : true ≡ nat_lt 0 (count_by is_main so_far.before) = ap is_some (sym has) ∙ so_far.seen_are.has_main in
    let faults = rw none at so_far.faults_are in
    let mains' : (name_of main ∷ []) ++ [] ≡ filter_map main_said (chunks_from 2 all) = rw (none, no_chunks (last + 1), has) at so_far.mains_are in
    let items' : map item_of manifest.items.items ++ [] ≡ filter_map item_said (chunks_from 2 all) = rw (none, no_chunks (last + 1)) at so_far.items_are in (
      sym faults ∙ end_with_main (length all + 1) so_far.before (last + 1) some,
      rw (← mains', ← items', main-is, append-nil (map item_of manifest.items.items)) refl,
    )

-- and where none did
pub lines_main : (all : List Line) (seen : Seen) (items : List declared.ManifestItem) (last : ℕ) (left : List Line)
    → InLines all seen items last left → left ≡ [] → seen.main ≡ None → behind_fault all ≡ Some (last, wrong_main)
lines_main all seen items last left so_far none has =
    let some : false ≡ nat_lt 0 (count_by is_main so_far.before) = ap is_some (sym has) ∙ so_far.seen_are.has_main in
    let faults = rw none at so_far.faults_are in
    let count = rw none at so_far.end_is in
    let at : length all + 1 ≡ last = omega arith in
    sym faults ∙ ap first_fault (faults_end (length all + 1) so_far.before (last + 1)) ∙ rw (← some, at) (first-told (last, wrong_main) [] tt)

-- ---- the first line

none_some : {A : Type 0} {x : A} → None ≡ Some x → ⊥
none_some is = cc

some_same : {A : Type 0} {x y : A} → Some x ≡ Some y → x ≡ y
some_same is = cc

some_none : {kind : LineKind} → Some kind ≡ None → ⊥
some_none is = cc

kind_right : (head : Line) (one two : Bool) → is_text head ≡ one → bytes_eq head.bytes (codes "jvolve 1") ≡ two → head_kind head ≡ None
    → (is_text head ≡ true) × (bytes_eq head.bytes (codes "jvolve 1") ≡ true)
kind_right head true true text is none = (text, is)
kind_right head true false text is none = absurd (some_none (rw (text, is) at none))
kind_right head false two text is none = absurd (some_none (rw text at none))

told_unless : (lines : List Line) (fault : Fault) → first_fault (manifest_faults lines) ≡ Some fault → manifest_of_lines lines ≡ Err fault
told_unless lines fault is = rw is

head_by : (head : Line) (lines : List Line) (kind : LineKind) (one two : Bool) → is_text head ≡ one
    → bytes_eq head.bytes (codes "jvolve 1") ≡ two → head_kind head ≡ Some kind
    → first_fault (manifest_faults (head ∷ lines)) ≡ Some (1, kind)
head_by head lines kind true true text is told = absurd (none_some (rw (text, is) at told))
head_by head lines kind true false text is told =
    let same : wrong_head ≡ kind = some_same (rw (text, is) at told) in
    rw (← same) (head_wrong head lines text is)
head_by head lines kind false two text is told =
    let same : not_text ≡ kind = some_same (rw text at told) in
    rw (← same) (head_no_text head lines text)

head_at : (head : Line) (lines : List Line) (kind : Option LineKind) (fault : Fault) → head_kind head ≡ kind
    → option_map (λ kind. (1, kind)) kind ≡ Some fault → first_fault (manifest_faults (head ∷ lines)) ≡ Some fault
head_at head lines None fault is told = absurd cc
head_at head lines (Some kind) fault is told =
    head_by head lines kind (is_text head) (bytes_eq head.bytes (codes "jvolve 1")) refl refl is ∙ told

-- what is wrong with the first line is told
head_told : (lines : List Line) (fault : Fault) → head_fault lines ≡ Some fault → first_fault (manifest_faults lines) ≡ Some fault
head_told [] fault is = first-told (1, wrong_head) [] tt ∙ is
head_told (head ∷ lines) fault is = head_at head lines (head_kind head) fault refl is

pub head_refused : (text : List ℕ) (fault : Fault) → head_fault (lines_of text) ≡ Some fault → manifest_of text ≡ Err fault
unfolding manifest_of
head_refused text fault is = told_unless (lines_of text) fault (head_told (lines_of text) fault is)

-- ---- the whole

right_by : (head : Line) (lines : List Line) → is_text head ≡ true → bytes_eq head.bytes (codes "jvolve 1") ≡ true
    → manifest_of_lines (head ∷ lines) ≡ unless (behind_fault lines) (manifest_said (chunks_from 2 lines))
right_by head lines text is = rw (head_right head lines text is)

pub whole_is : (text behind : List ℕ) → IsBehindHead text behind
    → manifest_of text ≡ unless (behind_fault (lines_of behind)) (manifest_said (chunks_from 2 (lines_of behind)))
unfolding manifest_of
whole_is text behind is =
    let right = kind_right is.head (is_text is.head) (bytes_eq is.head.bytes (codes "jvolve 1")) refl refl is.is_right in
    rw is.lines_are (right_by is.head (lines_of behind) right.0 right.1)

tells_by : (lines : List Line) (result : Result Manifest ManifestError) → ReadsLines lines result
    → TellsManifest result (unless (behind_fault lines) (manifest_said (chunks_from 2 lines)))
tells_by lines (Ok manifest) reads = rw (reads.0, ← reads.1)
tells_by lines (Err (errors.Line fault)) reads = rw reads
tells_by lines (Err errors.NoMemory) reads = tt

pub tells_whole : (text behind : List ℕ) (result : Result Manifest ManifestError) → IsBehindHead text behind
    → ReadsLines (lines_of behind) result → TellsManifest result (manifest_of text)
tells_whole text behind result is reads = rw (whole_is text behind is) (tells_by (lines_of behind) result reads)

-- the first line is right, so nothing is wrong with it
pub head_is_right : (text behind : List ℕ) (fault : Fault) → IsBehindHead text behind → head_fault (lines_of text) ≡ Some fault → ⊥
head_is_right text behind fault is told = none_some (rw (is.lines_are, is.is_right) at told)

-- the first line is wrong
pub tells_head : (text : List ℕ) (fault : LineFault) (result : Result Manifest ManifestError)
    → IsErrAnd result (λ other. other ≡ errors.Line fault) → head_fault (lines_of text) ≡ Some (fault_of fault)
    → TellsManifest result (manifest_of text)
tells_head text fault (Ok manifest) is told = absurd is
tells_head text fault (Err other) is told = rw is (head_refused text (fault_of fault) told)

pub early_told : (text : List ℕ) (fault : LineFault) (result : Result Manifest ManifestError)
    → IsErrAnd result (λ other. other ≡ errors.Line fault) → head_fault (lines_of text) ≡ Some (fault_of fault)
    → (first : Fault) → head_fault (lines_of text) ≡ Some first → MatchResult result (λ _. ⊥) (λ error. fault_told error ≡ Some first)
early_told text fault (Ok manifest) is told first head = absurd is
early_told text fault (Err other) is told first head = rw is (sym told ∙ head)
