-- Entries, each with its index.
use Rattle.std.proofs.Common.{◌≡◌, zero, suc, ltb, position, Option, Some, None, ℕ, ◌+◌, ◌-◌, ◌<◌, ◌≤◌, List, [], ◌∷◌, ◌++◌, Bool, true, false, not, cond, length, get_or, map, refl, ap, sym, ◌∙◌, add_assoc, arith}
use Rattle.std.specs.Prelude.{◌&&◌, ◌||◌, if◌then◌else◌}
use Rattle.std.specs.List.{list_all, list_any, position_or_len}
use Rattle.std.proofs.lemmas.List.{length-map, map-append}
use Rattle.std.proofs.lemmas.Bool.{ltb-true, ltb-false}
use Rattle.std.proofs.lemmas.Grind.{get_or_after_one}
use Rattle.assembler_model.specs.PoolEntries as model
use Rattle.assembler_model.specs.PoolEntries.{same_entry}
use Rattle.assembler_model.specs.AssemblerPool.{index_from, index_in, indices_of, with_entry}
use Rattle.asm_parts.specs.declared.entry.Entry.{Entry}
use Rattle.asm_parts.specs.Entries.{behind, entries_of, entry_of, has_texts, starts}
use Rattle.asm_parts.proofs.UnitLemmas.{both}
use Rattle.asm_parts.proofs.EntryLemmas.{eq, eq-self, eq_is, same-comm}

-- ---- an entry is there

pub any_is : (entry : Entry) (keys : List Entry) → has_texts entry ≡ true → list_all has_texts keys ≡ true
    → list_any (eq entry) keys ≡ list_any (same_entry (entry_of entry)) (entries_of keys)
any_is entry [] here all = refl
any_is entry (key ∷ keys) here all =
    let texts = both (has_texts key) (list_all has_texts keys) all in
    rw (eq_is entry key here texts.0, any_is entry keys here texts.1)

added_by : (test : Bool) (keys : List Entry) (entry : Entry)
    → entries_of (if test then keys else keys ++ entry ∷ []) ≡ (if test then entries_of keys else entries_of keys ++ entry_of entry ∷ [])
added_by true keys entry = refl
added_by false keys entry = map-append entry_of keys (entry ∷ [])

-- the entries with one more, unless it is there
pub added : (entry : Entry) (keys : List Entry) → has_texts entry ≡ true → list_all has_texts keys ≡ true
    → entries_of (if list_any (eq entry) keys then keys else keys ++ entry ∷ []) ≡ with_entry (entries_of keys) (entry_of entry)
added entry keys here all =
    added_by (list_any (eq entry) keys) keys entry
    ∙ ap (λ test. if test then entries_of keys else entries_of keys ++ entry_of entry ∷ []) (any_is entry keys here all)

-- ---- indices

pub length-starts : (index : ℕ) (entries : List model.Entry) → length (starts index entries) ≡ length entries
length-starts index [] = refl
length-starts index (entry ∷ entries) =
    let rest : length (starts (index + indices_of entry) entries) ≡ length entries = length-starts (index + indices_of entry) entries in
    omega (arith, rest)

pub starts-more : (index : ℕ) (entries : List model.Entry) (entry : model.Entry)
    → starts index (entries ++ entry ∷ []) ≡ starts index entries ++ behind index entries ∷ []
starts-more index [] entry = refl
starts-more index (first ∷ entries) entry = ap (λ rest. index ∷ rest) (starts-more (index + indices_of first) entries entry)

pub behind-more : (index : ℕ) (entries : List model.Entry) (entry : model.Entry)
    → behind index (entries ++ entry ∷ []) ≡ behind index entries + indices_of entry
behind-more index [] entry = refl
behind-more index (first ∷ entries) entry = behind-more (index + indices_of first) entries entry

by_first : (test : Bool) (index place other : ℕ) (rest : List ℕ) (last : ℕ) → other ≡ get_or rest place last
    → (if test then index else other) ≡ get_or (index ∷ rest) (cond (not test) (1 + place) 0) last
by_first true index place other rest last is = refl
by_first false index place other rest last is = is ∙ get_or_after_one (index ∷ rest) place last

-- the index of an entry, by its place
pub index_at : (index : ℕ) (keys : List Entry) (entry : Entry) → has_texts entry ≡ true → list_all has_texts keys ≡ true
    → index_from index (entries_of keys) (entry_of entry)
    ≡ get_or (starts index (entries_of keys)) (position_or_len (eq entry) keys) (behind index (entries_of keys))
unfolding index_from
index_at index [] entry here all = refl
index_at index (key ∷ keys) entry here all =
    let texts = both (has_texts key) (list_all has_texts keys) all in
    let test : same_entry (entry_of key) (entry_of entry) ≡ eq entry key =
    same-comm key entry ∙ sym (eq_is entry key here texts.0) in
    rw test (by_first (eq entry key) index (position_or_len (eq entry) keys) _ _ _
    (index_at (index + indices_of (entry_of key)) keys entry here texts.1))

position_cases : (test : Bool) (place at : ℕ) → Some place ≡ cond test (Some at) None → (test ≡ true) × (place ≡ at)
position_cases true place at is = (refl, cc)
position_cases false place at is = absurd cc

none_cases : (test : Bool) (at : ℕ) → None ≡ cond test (Some at) None → test ≡ false
none_cases true at is = absurd cc
none_cases false at is = refl

same_within : (xs : List ℕ) (i d : ℕ) → i < length xs → get_or xs i d ≡ get_or xs i 0
same_within [] i d within = absurd (omega arith)
same_within (x ∷ xs) zero d within = refl
same_within (x ∷ xs) (suc i) d within = same_within xs i d (omega arith)

past_end : (xs : List ℕ) (i d : ℕ) → length xs ≤ i → get_or xs i d ≡ d
past_end [] i d past = refl
past_end (x ∷ xs) zero d past = absurd (omega arith)
past_end (x ∷ xs) (suc i) d past = past_end xs i d (omega arith)

length-of : (keys : List Entry) → length (starts 1 (entries_of keys)) ≡ length keys
length-of keys = length-starts 1 (entries_of keys) ∙ length-map keys entry_of

-- the index at the place where an entry is found
pub index_found : (keys : List Entry) (entry : Entry) (place : ℕ) → has_texts entry ≡ true → list_all has_texts keys ≡ true
    → place ≡ position_or_len (eq entry) keys → place < length keys
    → get_or (starts 1 (entries_of keys)) place 0 ≡ index_in (entries_of keys) (entry_of entry)
index_found keys entry place here all at within =
    sym (same_within (starts 1 (entries_of keys)) place (behind 1 (entries_of keys)) (omega (arith, length-of keys)))
    ∙ ap (λ place. get_or (starts 1 (entries_of keys)) place (behind 1 (entries_of keys))) at
    ∙ sym (index_at 1 keys entry here all)

pub index_some : (keys : List Entry) (entry : Entry) (place : ℕ) → has_texts entry ≡ true → list_all has_texts keys ≡ true
    → Some place ≡ position (eq entry) keys
    → get_or (starts 1 (entries_of keys)) place 0 ≡ index_in (entries_of keys) (entry_of entry)
index_some keys entry place here all is =
    let at = position_cases (ltb (position_or_len (eq entry) keys) (length keys)) place (position_or_len (eq entry) keys) is in
    index_found keys entry place here all at.1 (omega (arith, ltb-true _ _ at.0))

-- the index that an entry would have
pub index_none : (keys : List Entry) (entry : Entry) → has_texts entry ≡ true → list_all has_texts keys ≡ true
    → None ≡ position (eq entry) keys → behind 1 (entries_of keys) ≡ index_in (entries_of keys) (entry_of entry)
index_none keys entry here all is =
    let far : length keys ≤ position_or_len (eq entry) keys =
    ltb-false _ _ (none_cases (ltb (position_or_len (eq entry) keys) (length keys)) (position_or_len (eq entry) keys) is) in
    sym (past_end (starts 1 (entries_of keys)) (position_or_len (eq entry) keys) (behind 1 (entries_of keys)) (omega (arith, length-of keys)))
    ∙ sym (index_at 1 keys entry here all)

either_test : (a b : Bool) → (a || b) ≡ false → (a ≡ false) × (b ≡ false)
either_test true b is = absurd cc
either_test false b is = (refl, is)

-- a new entry has the index behind all
index_new : (index : ℕ) (keys : List Entry) (entry : Entry) → has_texts entry ≡ true → list_all has_texts keys ≡ true
    → list_any (eq entry) keys ≡ false
    → index_from index (entries_of keys ++ entry_of entry ∷ []) (entry_of entry) ≡ behind index (entries_of keys)
unfolding index_from
index_new index [] entry here all new =
    let self : same_entry (entry_of entry) (entry_of entry) ≡ true = sym (eq_is entry entry here here) ∙ eq-self entry in
    rw self
index_new index (key ∷ keys) entry here all new =
    let texts = both (has_texts key) (list_all has_texts keys) all in
    let none = either_test (eq entry key) (list_any (eq entry) keys) new in
    let test : same_entry (entry_of key) (entry_of entry) ≡ false =
    same-comm key entry ∙ sym (eq_is entry key here texts.0) ∙ none.0 in
    rw test (index_new (index + indices_of (entry_of key)) keys entry here texts.1 none.1)

pub index_behind : (keys : List Entry) (entry : Entry) → has_texts entry ≡ true → list_all has_texts keys ≡ true
    → list_any (eq entry) keys ≡ false
    → behind 1 (entries_of keys) ≡ index_in (entries_of (keys ++ entry ∷ [])) (entry_of entry)
index_behind keys entry here all new =
    sym (ap (λ entries. index_in entries (entry_of entry)) (map-append entry_of keys (entry ∷ [])) ∙ index_new 1 keys entry here all new)

pub texts_more : (keys : List Entry) (entry : Entry) → has_texts entry ≡ true → list_all has_texts keys ≡ true
    → list_all has_texts (keys ++ entry ∷ []) ≡ true
texts_more [] entry here all = rw here
texts_more (key ∷ keys) entry here all =
    let texts = both (has_texts key) (list_all has_texts keys) all in
    rw (texts.0, texts_more keys entry here texts.1)

by_new : {X : Type 0} (test is_new : Bool) (keys : List X) (entry : X) (keys' : List X)
    → keys' ≡ (if test then keys else keys ++ entry ∷ []) → is_new ≡ not test → is_new ≡ false → keys' ≡ keys
by_new true is_new keys entry keys' is new stays = is
by_new false is_new keys entry keys' is new stays = absurd cc

by_old : {X : Type 0} (test is_new : Bool) (keys : List X) (entry : X) (keys' : List X)
    → keys' ≡ (if test then keys else keys ++ entry ∷ []) → is_new ≡ not test → is_new ≡ true
    → (keys' ≡ keys ++ entry ∷ []) × (test ≡ false)
by_old true is_new keys entry keys' is new comes = absurd cc
by_old false is_new keys entry keys' is new comes = (is, refl)

-- it was there: the keys stay
pub keys_stay : (keys keys' : List Entry) (entry : Entry) (is_new : Bool)
    → keys' ≡ (if list_any (eq entry) keys then keys else keys ++ entry ∷ []) → is_new ≡ not (list_any (eq entry) keys)
    → is_new ≡ false → keys' ≡ keys
keys_stay keys keys' entry is_new is new stays = by_new (list_any (eq entry) keys) is_new keys entry keys' is new stays

-- it is new: it stands behind the others
pub keys_grow : (keys keys' : List Entry) (entry : Entry) (is_new : Bool)
    → keys' ≡ (if list_any (eq entry) keys then keys else keys ++ entry ∷ []) → is_new ≡ not (list_any (eq entry) keys)
    → is_new ≡ true → (keys' ≡ keys ++ entry ∷ []) × (list_any (eq entry) keys ≡ false)
keys_grow keys keys' entry is_new is new comes = by_old (list_any (eq entry) keys) is_new keys entry keys' is new comes
