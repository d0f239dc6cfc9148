-- Copies of found objects have their words, and roots are forwarded one by one.
use Rattle.std.proofs.Common.{◌≡◌, ℕ, zero, suc, ◌+◌, ◌-◌, ◌<◌, ◌≤◌, List, [], ◌∷◌, ◌++◌, length, take, drop, set, get_or, refl, sym, ap, ◌∙◌, arith, append_assoc, length-append}
use Rattle.std.specs.Prelude.{Option, Some, None, map, slice_get, option_map, option_to_list, unwrap_or}
use Rattle.std.specs.List.{sum_by}
use Rattle.std.proofs.lemmas.List.{take_more, drop_more, length-map, length-take-le, map-append, set_at}
use Rattle.std.proofs.lemmas.List.Sums.{sum_by-cons, sum_by-append}
use Rattle.heap_face.specs.declared.address.Addr.{Addr}
use Rattle.heap_face.specs.declared.layout.Layouts.{Layouts}
use Rattle.heap_face.specs.Heap.{Stored}
use Rattle.row_heap.specs.Table.{table_words, words_at}
use Rattle.row_heap.specs.Forwards.{copy_of, copies_at, copies, forwarded_root}
use Rattle.row_heap.proofs.RowLemmas.{object_words}

copy_words : (layouts : Layouts) (forwards : List ℕ) (found : Option (Stored ℕ))
    → table_words (map (copy_of layouts forwards) (option_to_list found)) ≡ unwrap_or (option_map object_words found) 0
copy_words layouts forwards None = refl
copy_words layouts forwards (Some object) = omega arith

pub copies_words : (layouts : Layouts) (objects : List (Stored ℕ)) (forwards order : List ℕ)
    → table_words (copies layouts objects forwards order) ≡ sum_by (words_at objects) order
copies_words layouts objects forwards [] = refl
copies_words layouts objects forwards (place ∷ order) =
    sum_by-append object_words (copies_at layouts objects forwards place) (copies layouts objects forwards order)
    ∙ omega (arith, copy_words layouts forwards (slice_get objects place), copies_words layouts objects forwards order, sum_by-cons (words_at objects) place order)

pub root_set : (f : Addr → Addr) (old items : List Addr) (at : ℕ) (root : Addr)
    → items ≡ map f (take at old) ++ drop at old → at < length old → slice_get items at ≡ Some root
    → set items at (f root) ≡ map f (take (at + 1) old) ++ drop (at + 1) old
root_set f old items at root is within here =
    let front = map f (take at old) in
    let long : length front ≡ at = length-map (take at old) f ∙ length-take-le at old (omega (arith, within)) in
    let rest : drop at old ≡ get_or old at root ∷ drop (at + 1) old = drop_more old at root within in
    let items_are : items ≡ front ++ get_or old at root ∷ drop (at + 1) old = is ∙ ap (λ (list : List Addr). front ++ list) rest in
    let same : root ≡ get_or old at root = some_same _ _ (sym here ∙ ap (λ (list : List Addr). slice_get list at) items_are ∙ slice_get_at front (get_or old at root) (drop (at + 1) old) at long) in
    let more : map f (take (at + 1) old) ≡ front ++ f (get_or old at root) ∷ [] = ap (map f) (take_more old at root within) ∙ map-append f (take at old) (get_or old at root ∷ []) in
    ap (λ (list : List Addr). set list at (f root)) items_are
    ∙ set_at front (get_or old at root) (drop (at + 1) old) (f root) at long
    ∙ ap (λ (a : Addr). front ++ f a ∷ drop (at + 1) old) same
    ∙ sym (append_assoc front (f (get_or old at root) ∷ []) (drop (at + 1) old))
    ∙ ap (λ (list : List Addr). list ++ drop (at + 1) old) (sym more)
  where
    some_same : (a b : Addr) → Some a ≡ Some b → a ≡ b
    some_same a b h = cc

    slice_get_at : (front : List Addr) (a : Addr) (rest : List Addr) (n : ℕ) → length front ≡ n → slice_get (front ++ a ∷ rest) n ≡ Some a
    slice_get_at [] a rest zero long = refl
    slice_get_at [] a rest (suc n) long = absurd (omega (arith, long))
    slice_get_at (b ∷ front) a rest zero long = absurd (omega (arith, long))
    slice_get_at (b ∷ front) a rest (suc n) long = slice_get_at front a rest n (omega (arith, long))
