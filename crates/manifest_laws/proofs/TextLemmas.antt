-- Lines that are no text.
use Rattle.std.proofs.Common.{◌≡◌, ℕ, ◌+◌, ◌≤◌, ◌<◌, List, [], ◌∷◌, ◌++◌, Bool, true, false, Some, length, refl, ap, sym, ◌∙◌, append_assoc, arith}
use Rattle.std.specs.Prelude.{◌&&◌, ◌||◌, bytes_eq}
use Rattle.std.specs.Str.{is_utf8}
use Rattle.std.proofs.lemmas.Slice.Eq.{bytes_eq-Decides}
use Rattle.jv_model.specs.Lines.{Line}
use Rattle.jv_model.specs.Refusal.{not_text}
use Rattle.text_model.specs.LineFaults.{Fault, at_line, first_fault, is_text, rank, text_faults, unless_true}
use Rattle.manifest_laws.specs.Blocks.{has_end, is_line, lines_before, lines_behind}
use Rattle.manifest_laws.proofs.FaultLemmas.{From, From-less, NoneBefore, NoneBefore-append, not_before, first-told}

-- ---- where they stand

texts_from-by : (n : ℕ) (lines : List Line) (test : Bool) → From (n + 1) (text_faults (n + 1) lines)
    → From n (at_line n (unless_true test not_text) ++ text_faults (n + 1) lines)
texts_from-by n lines true from = From-less n (n + 1) (text_faults (n + 1) lines) (omega arith) from
texts_from-by n lines false from = (omega arith, From-less n (n + 1) (text_faults (n + 1) lines) (omega arith) from)

pub texts_from : (n : ℕ) (lines : List Line) → From n (text_faults n lines)
unfolding text_faults
texts_from n [] = tt
texts_from n (line ∷ lines) = texts_from-by n lines (is_text line) (texts_from (n + 1) lines)

-- lines that are no text, in order, of numbers from the first on and below the second
abbrev pub TextsIn : ℕ → ℕ → List Fault → Type 0
TextsIn n m [] = Unit {0}
TextsIn n m (f ∷ fs) = (n ≤ f.0) × (f.0 < m) × (f.1 ≡ not_text) × TextsIn f.0 m fs

texts_in-less : (n k m : ℕ) (fs : List Fault) → n ≤ k → TextsIn k m fs → TextsIn n m fs
texts_in-less n k m [] less texts = tt
texts_in-less n k m (f ∷ fs) less texts = (omega (arith, texts.0), texts.1, texts.2, texts.3)

texts_in-by : (n m : ℕ) (lines : List Line) (test : Bool) → n < m → TextsIn (n + 1) m (text_faults (n + 1) lines)
    → TextsIn n m (at_line n (unless_true test not_text) ++ text_faults (n + 1) lines)
texts_in-by n m lines true less texts = texts_in-less n (n + 1) m (text_faults (n + 1) lines) (omega arith) texts
texts_in-by n m lines false less texts =
    (omega arith, less, refl, texts_in-less n (n + 1) m (text_faults (n + 1) lines) (omega arith) texts)

pub texts_in : (n m : ℕ) (lines : List Line) → n + length lines ≤ m → TextsIn n m (text_faults n lines)
unfolding text_faults
texts_in n m [] less = tt
texts_in n m (line ∷ lines) less =
    texts_in-by n m lines (is_text line) (omega arith) (texts_in (n + 1) m lines (omega arith))

texts-none_before : (g : Fault) (k m : ℕ) (fs : List Fault) → g.1 ≡ not_text → g.0 ≤ k → TextsIn k m fs → NoneBefore g fs
texts-none_before g k m [] is less texts = tt
texts-none_before g k m (f ∷ fs) is less texts =
    let zero : rank g.1 ≡ 0 = ap rank is in
    let far : g.0 ≤ f.0 = omega (arith, texts.0) in
    (not_before g f far (λ same. omega arith), texts-none_before g f.0 m fs is far texts.3)

from-none_before : (g : Fault) (k : ℕ) (fs : List Fault) → g.1 ≡ not_text → g.0 ≤ k → From k fs → NoneBefore g fs
from-none_before g k [] is less from = tt
from-none_before g k (f ∷ fs) is less from =
    let zero : rank g.1 ≡ 0 = ap rank is in
    let far : g.0 ≤ f.0 = omega (arith, from.0) in
    (not_before g f far (λ same. omega arith), from-none_before g k fs is less from.1)

-- ---- which of them is told

told_of_none : (f : Fault) (os : List Fault) → first_fault ([] ++ os) ≡ Some f → first_fault os ≡ Some f
told_of_none f os is = is

-- What is told of a block is told of all that is wrong from the block on.
pub block_told : (fs os gs : List Fault) (f : Fault) (a m k : ℕ) → TextsIn a m fs → m ≤ k + 1 → From k os → From k gs
    → (first_fault os ≡ Some f → first_fault (os ++ gs) ≡ Some f)
    → first_fault (fs ++ os) ≡ Some f → first_fault (fs ++ (os ++ gs)) ≡ Some f
block_told [] os gs f a m k texts less first second only is = only is
block_told (g ∷ fs) os gs f a m k texts less first second only is =
    let near : g.0 ≤ k = omega (arith, texts.1) in
    let rest = texts-none_before g g.0 m fs texts.2 (omega arith) texts.3 in
    let behind = from-none_before g k os texts.2 near first in
    let further = from-none_before g k gs texts.2 near second in
    let one : first_fault (g ∷ (fs ++ os)) ≡ Some g = first-told g (fs ++ os) (NoneBefore-append g fs os rest behind) in
    let all : first_fault (g ∷ (fs ++ (os ++ gs))) ≡ Some g =
    first-told g (fs ++ (os ++ gs)) (NoneBefore-append g fs (os ++ gs) rest (NoneBefore-append g os gs behind further)) in
    all ∙ sym one ∙ is

-- ---- behind a block

both : (a b : Bool) → (a && b) ≡ true → (a ≡ true) × (b ≡ true)
both true b is = (refl, is)
both false b is = absurd cc

some_later : (a b : Bool) → a ≡ false → (a || b) ≡ true → b ≡ true
some_later true b is some = absurd cc
some_later false b is some = some

none_here : (a b : Bool) → (a || b) ≡ false → a ≡ false
none_here true b none = none
none_here false b none = refl

none_later : (a b : Bool) → (a || b) ≡ false → b ≡ false
none_later true b none = absurd cc
none_later false b none = none

pub end_is_text : (end : List ℕ) (line : Line) → is_utf8 end ≡ true → is_line end line ≡ true → is_text line ≡ true
end_is_text end line text is =
    let parts = both line.is_ended (bytes_eq line.bytes end) is in
    let same : line.bytes ≡ end = (bytes_eq-Decides line.bytes end).0 parts.1 in
    rw (parts.0, same, text)

texts-by : (end : List ℕ) (n : ℕ) (line : Line) (lines : List Line) (test : Bool) → is_utf8 end ≡ true → is_line end line ≡ test
    → has_end end (line ∷ lines) ≡ true
    → (has_end end lines ≡ true → text_faults (n + 1) lines
    ≡ text_faults (n + 1) (lines_before end lines) ++ text_faults (n + 1 + length (lines_before end lines) + 1) (lines_behind end lines))
    → text_faults n (line ∷ lines)
    ≡ text_faults n (lines_before end (line ∷ lines))
    ++ text_faults (n + length (lines_before end (line ∷ lines)) + 1) (lines_behind end (line ∷ lines))
unfolding text_faults
texts-by end n line lines true text is has rest =
    let same : n + 0 + 1 ≡ n + 1 = omega arith in
    rw (is, same, end_is_text end line text is)
texts-by end n line lines false text is has rest =
    let more : has_end end lines ≡ true = some_later (is_line end line) (has_end end lines) is has in
    let same : n + 1 + length (lines_before end lines) + 1 ≡ n + length (line ∷ lines_before end lines) + 1 = omega arith in
    let here = at_line n (unless_true (is_text line) not_text) in
    let block = text_faults (n + 1) (lines_before end lines) in
    rw is (ap (λ faults. here ++ faults) (rest more)
    ∙ sym (append_assoc here block (text_faults (n + 1 + length (lines_before end lines) + 1) (lines_behind end lines)))
    ∙ ap (λ m. (here ++ block) ++ text_faults m (lines_behind end lines)) same)

pub texts_around : (end : List ℕ) (n : ℕ) (lines : List Line) → is_utf8 end ≡ true → has_end end lines ≡ true
    → text_faults n lines
    ≡ text_faults n (lines_before end lines) ++ text_faults (n + length (lines_before end lines) + 1) (lines_behind end lines)
texts_around end n [] text has = absurd cc
texts_around end n (line ∷ lines) text has =
    texts-by end n line lines (is_line end line) text refl has (λ more. texts_around end (n + 1) lines text more)

-- where no line ends it, the block is all lines
pub before_all : (end : List ℕ) (lines : List Line) → has_end end lines ≡ false → lines_before end lines ≡ lines
before_all end [] has = refl
before_all end (line ∷ lines) has =
    let here = none_here (is_line end line) (has_end end lines) has in
    let later = none_later (is_line end line) (has_end end lines) has in
    rw here (ap (λ more. line ∷ more) (before_all end lines later))

pub behind_none : (end : List ℕ) (lines : List Line) → has_end end lines ≡ false → lines_behind end lines ≡ []
behind_none end [] has = refl
behind_none end (line ∷ lines) has =
    let here = none_here (is_line end line) (has_end end lines) has in
    let later = none_later (is_line end line) (has_end end lines) has in
    rw here (behind_none end lines later)

around-by : (end : List ℕ) (line : Line) (lines : List Line) (test : Bool) → is_line end line ≡ test
    → has_end end (line ∷ lines) ≡ true
    → (has_end end lines ≡ true → length lines ≡ length (lines_before end lines) + 1 + length (lines_behind end lines))
    → length (line ∷ lines)
    ≡ length (lines_before end (line ∷ lines)) + 1 + length (lines_behind end (line ∷ lines))
around-by end line lines true is has rest = rw is (omega arith)
around-by end line lines false is has rest =
    let more : has_end end lines ≡ true = some_later (is_line end line) (has_end end lines) is has in
    let count = rest more in
    rw is (omega arith)

-- how many lines a block and what is behind it have
pub lines_around : (end : List ℕ) (lines : List Line) → has_end end lines ≡ true
    → length lines ≡ length (lines_before end lines) + 1 + length (lines_behind end lines)
lines_around end [] has = absurd cc
lines_around end (line ∷ lines) has = around-by end line lines (is_line end line) refl has (λ more. lines_around end lines more)
