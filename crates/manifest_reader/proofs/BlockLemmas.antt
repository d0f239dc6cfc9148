-- A block, line by line.
use Rattle.std.proofs.Common.{◌≡◌, ℕ, ◌+◌, ◌-◌, ◌≤◌, ◌<◌, List, [], ◌∷◌, ◌++◌, Bool, true, false, Option, Some, None, length, take, refl, ap, sym, ◌∙◌, append_assoc, arith, length-append}
use Rattle.std.specs.Prelude.{◌&&◌, ◌==◌, bytes_eq, if◌then◌else◌}
use Rattle.std.specs.Str.{is_utf8}
use Rattle.std.proofs.lemmas.Bool.{eqb-true}
use Rattle.std.proofs.lemmas.List.{append-nil}
use Rattle.std.proofs.Math.Seq.{take-append_seam}
use Rattle.jv_model.specs.Lines.{Line, lines_of}
use Rattle.jv_model.specs.Refusal.{not_text, open_block}
use Rattle.text_model.specs.LineFaults.{Fault, at_line, first_fault, is_text, text_faults, unless_true}
use Rattle.assembler_model.specs.Blocks.{block_text}
use Rattle.manifest_laws.specs.Blocks.{block_faults, has_end, is_line, lines_before, lines_behind}
use Rattle.manifest_laws.proofs.FaultLemmas.{From, From-append, From-at_line, From-less, From-text, first-told}
use Rattle.manifest_laws.proofs.TextLemmas.{end_is_text, texts_from}
use Rattle.manifest_laws.proofs.LineLemmas.{text_behind_line}

-- ---- fronts of a text

take_front : (a b : List ℕ) (n : ℕ) → n ≡ length a → take n (a ++ b) ≡ a
take_front a b n is = ap (λ m. take m (a ++ b)) is ∙ take-append_seam a b

-- what stands in front of the rest of a text
pub front_is : (text front left : List ℕ) → text ≡ front ++ left → take (length text - length left) text ≡ front
front_is text front left is =
    let count : length text - length left ≡ length front = omega (arith, ap length is, length-append front left) in
    ap (take (length text - length left)) is ∙ take_front front left (length text - length left) count

-- ---- the block so far

-- The lines behind the opening one, in all and from one on; and the bytes between the two.
pub record InBlock (end : List ℕ) (opening : ℕ) (text : List ℕ) (last : ℕ) (left : List ℕ) : Type 0 where
  pub front : List ℕ
  pub whole : text ≡ front ++ left
  pub ends : has_end end (lines_of left) ≡ has_end end (lines_of text)
  pub texts : text_faults (last + 1) (lines_before end (lines_of left)) ≡ text_faults (opening + 1) (lines_before end (lines_of text))
  pub block : front ++ block_text (lines_before end (lines_of left)) ≡ block_text (lines_before end (lines_of text))
  pub count : last + length (lines_of left) ≡ opening + length (lines_of text)
  pub before : last + length (lines_before end (lines_of left)) ≡ opening + length (lines_before end (lines_of text))
  pub behind : lines_behind end (lines_of left) ≡ lines_behind end (lines_of text)

pub block_none : (end : List ℕ) (opening : ℕ) (text : List ℕ) → InBlock end opening text opening text
block_none end opening text =
    record {
      front = [];
      whole = refl;
      ends = refl;
      texts = refl;
      block = refl;
      count = refl;
      before = refl;
      behind = refl;
    }

both-first : (a b : Bool) → (a && b) ≡ true → a ≡ true
both-first true b is = refl
both-first false b is = absurd cc

ended_of : (line : Line) → is_text line ≡ true → line.is_ended ≡ true
ended_of line text = both-first line.is_ended (is_utf8 line.bytes) text

counted : {A B : Type 0} (last opening : ℕ) (all : List A) (x : B) (xs : List B) → last + length (x ∷ xs) ≡ opening + length all
    → last + 1 + length xs ≡ opening + length all
counted last opening all x xs is = omega arith

true_false : true ≡ false → ⊥
true_false is = cc

-- one line more
pub block_next : (end : List ℕ) (opening : ℕ) (text : List ℕ) (last : ℕ) (left behind : List ℕ) (line : Line)
    → InBlock end opening text last left → lines_of left ≡ line ∷ lines_of behind → is_text line ≡ true
    → is_line end line ≡ false → InBlock end opening text (last + 1) behind
unfolding text_faults
block_next end opening text last left behind line so_far is text' other =
    let ended = ended_of line text' in
    let cut = text_behind_line left line behind ended is in
    let here = line.bytes ++ 10 ∷ [] in
    record {
      front = so_far.front ++ here;
      whole = so_far.whole ∙ ap (λ more. so_far.front ++ more) cut ∙ sym (append_assoc so_far.front here behind);
      ends = rw (is, other) at so_far.ends;
      texts = rw (is, other, text') at so_far.texts;
      block =
          append_assoc so_far.front here (block_text (lines_before end (lines_of behind)))
          ∙ (rw (is, other) at so_far.block);
      count = counted last opening (lines_of text) line (lines_of behind) (rw is at so_far.count);
      before =
          counted last opening (lines_before end (lines_of text)) line (lines_before end (lines_of behind))
          (rw (is, other) at so_far.before);
      behind = rw (is, other) at so_far.behind;
    }

-- What is known of a block once its end is found.
pub record Ended (end : List ℕ) (opening : ℕ) (text : List ℕ) (last : ℕ) (left behind : List ℕ) : Type 0 where
  pub ends : has_end end (lines_of text) ≡ true
  pub are_text : text_faults (opening + 1) (lines_before end (lines_of text)) ≡ []
  pub text_is : take (length text - length left) text ≡ block_text (lines_before end (lines_of text))
  pub last_is : last + 1 ≡ opening + length (lines_before end (lines_of text)) + 1
  pub left_is : lines_of behind ≡ lines_behind end (lines_of text)

pub block_end : (end : List ℕ) (opening : ℕ) (text : List ℕ) (last : ℕ) (left behind : List ℕ) (line : Line)
    → InBlock end opening text last left → lines_of left ≡ line ∷ lines_of behind → is_line end line ≡ true
    → Ended end opening text last left behind
unfolding text_faults
block_end end opening text last left behind line so_far is it =
    let none = rw (is, it) at so_far.block in
    let at = rw (is, it) at so_far.before in
    record {
      ends = sym (rw (is, it) at so_far.ends);
      are_text = sym (rw (is, it) at so_far.texts);
      text_is = front_is text so_far.front left so_far.whole ∙ sym (append-nil so_far.front) ∙ none;
      last_is = omega arith;
      left_is = rw (is, it) at so_far.behind;
    }

not_end : (end : List ℕ) (line : Line) (test : Bool) → is_line end line ≡ test → is_utf8 end ≡ true → is_text line ≡ false
    → is_line end line ≡ false
not_end end line true is utf8 text = absurd (true_false (sym (end_is_text end line utf8 is) ∙ text))
not_end end line false is utf8 text = is

-- a line that is no text
pub block_no_text : (end : List ℕ) (opening : ℕ) (text : List ℕ) (last : ℕ) (left behind : List ℕ) (line : Line)
    → InBlock end opening text last left → lines_of left ≡ line ∷ lines_of behind → is_utf8 end ≡ true → is_text line ≡ false
    → first_fault (block_faults end (opening + length (lines_of text)) (opening + 1) (lines_of text)) ≡ Some (last + 1, not_text)
unfolding text_faults
block_no_text end opening text last left behind line so_far is utf8 none =
    let other = not_end end line (is_line end line) refl utf8 none in
    let total = opening + length (lines_of text) in
    let count : total ≡ last + length (line ∷ lines_of behind) = sym (rw is at so_far.count) in
    let texts = text_faults (last + 1 + 1) (lines_before end (lines_of behind)) in
    let here = at_line total (unless_true (has_end end (lines_of text)) open_block) in
    let same : (last + 1, not_text) ∷ texts ≡ text_faults (opening + 1) (lines_before end (lines_of text)) =
    rw (is, other, none) at so_far.texts in
    rw (← same) (first-told (last + 1, not_text) (texts ++ here)
    (From-text (last + 1) (texts ++ here)
    (From-append (last + 1) texts here
    (From-less (last + 1) (last + 1 + 1) texts (omega arith) (texts_from (last + 1 + 1) (lines_before end (lines_of behind))))
    (From-at_line (last + 1) total (unless_true (has_end end (lines_of text)) open_block) (omega arith)))))

-- the end of the text
pub block_open : (end : List ℕ) (opening : ℕ) (text : List ℕ) (last : ℕ) (left : List ℕ)
    → InBlock end opening text last left → lines_of left ≡ []
    → first_fault (block_faults end (opening + length (lines_of text)) (opening + 1) (lines_of text)) ≡ Some (last, open_block)
unfolding text_faults
block_open end opening text last left so_far none =
    let total = opening + length (lines_of text) in
    let count : last + 0 ≡ total = rw none at so_far.count in
    let at : total ≡ last = omega arith in
    let texts : [] ≡ text_faults (opening + 1) (lines_before end (lines_of text)) = rw none at so_far.texts in
    let ends : false ≡ has_end end (lines_of text) = rw none at so_far.ends in
    rw (← texts, ← ends, at) (first-told (last, open_block) [] tt)
