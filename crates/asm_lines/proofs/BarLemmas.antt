-- Words that are cut at the first bar.
use Rattle.std.proofs.Common.{◌≡◌, ℕ, ◌+◌, ◌-◌, ◌<◌, ◌≤◌, List, [], ◌∷◌, Bool, true, false, length, get_or, take, drop, map, refl, ap, sym, ◌∙◌, arith, Bor}
use Rattle.std.specs.List.{position_or_len, before_first, after_first}
use Rattle.std.proofs.lemmas.List.{drop_more, take_all, take-map, drop-map, length-drop}
use Rattle.assembler_model.specs.AssemblerLines.{is_bar}
use Rattle.asm_lines.specs.Words.{texts}

abbrev none : Bor (List ℕ)
none = record { ref_ptr = (0, 0); now = [] }

-- the first bar stands here
bar_at : (words : List (Bor (List ℕ))) (place : ℕ) → place < length words
    → place + position_or_len is_bar (texts (drop place words)) ≡ position_or_len is_bar (texts words)
    → is_bar (get_or words place none).now ≡ true → position_or_len is_bar (texts words) ≡ place
bar_at words place within same bar =
    let first : position_or_len is_bar (texts (drop place words)) ≡ 0 = rw (drop_more words place none within) (rw bar) in
    omega (arith, same, first)

pub before_bar : (words : List (Bor (List ℕ))) (place : ℕ) → place < length words
    → place + position_or_len is_bar (texts (drop place words)) ≡ position_or_len is_bar (texts words)
    → is_bar (get_or words place none).now ≡ true → texts (take place words) ≡ before_first is_bar (texts words)
before_bar words place within same bar =
    sym (take-map (λ word. word.now) place words)
    ∙ ap (λ n. take n (texts words)) (sym (bar_at words place within same bar))

pub behind_bar : (words : List (Bor (List ℕ))) (place : ℕ) → place < length words
    → place + position_or_len is_bar (texts (drop place words)) ≡ position_or_len is_bar (texts words)
    → is_bar (get_or words place none).now ≡ true
    → texts (take (length words - (place + 1)) (drop (place + 1) words)) ≡ after_first is_bar (texts words)
behind_bar words place within same bar =
    let all : take (length words - (place + 1)) (drop (place + 1) words) ≡ drop (place + 1) words =
    take_all (length words - (place + 1)) (drop (place + 1) words) (omega (arith, length-drop (place + 1) words)) in
    ap texts all ∙ sym (drop-map (λ word. word.now) (place + 1) words)
    ∙ ap (λ n. drop (n + 1) (texts words)) (sym (bar_at words place within same bar))
