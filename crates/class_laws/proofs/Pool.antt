-- A constant pool that is read is spelled so, and what is spelled so is read again.
use Rattle.std.proofs.Common.{◌≡◌, ℕ, zero, suc, ◌+◌, ◌-◌, ◌⊎◌, Bool, true, false, cond, ◌||◌, List, [], ◌∷◌, ◌++◌, length, None, Result, Ok, Err, refl, sym, ap, subst, arith, inl, inr, IsTrue}
use Rattle.std.specs.Prelude.{IsFalse}
use Rattle.std.specs.List.{AllByRecursion, flat_map, list_all}
use Rattle.std.proofs.lemmas.Bool.{and_parts, cases_Bool}
use Rattle.std.proofs.lemmas.List.{append-nil}
use Rattle.jv_model.specs.Refusal.{Cause}
use Rattle.jv_model.specs.Partial.{first_of}
use Rattle.jv_model.specs.Input.{Input, in_front}
use Rattle.jv_model.specs.ClassData.{Const, gap, long, double}
use Rattle.jv_model.specs.ConstantPool.{class_tag, is_wide, is_gap, names}
use Rattle.jv_model.specs.ClassBytes.{u2, constant_bytes, table}
use Rattle.jv_model.specs.ClassLimits.{constant_limit}
use Rattle.jv_model.specs.Profile.{IsU2, names_right, FitsConst, HasGaps, IsPool}
use Rattle.jv_model.specs.ClassReading.{constant_at, entries_at, first_wrong, pool_at}
use Rattle.class_laws.proofs.Numbers.{IsBytes, bind_ok, ok_is, Takes, Takes-none, Takes-then, Finds, Finds-none, Finds-then, Finds-map}
use Rattle.class_laws.proofs.Readers.{Spelling, Reads, Then, Reads-then, Nothing, Holding, unless_ends, Spelt, u2_reads, spelt_then, spelt_last}
use Rattle.class_laws.proofs.Counts.{or_else-parts}
use Rattle.class_laws.proofs.Constants.{IsEntry, constant_takes, constant_again}

-- ---- what the entries name

pub all_name_right : (major : ℕ) (pool : List Const) (index : ℕ) (entries : List Const)
    → first_wrong major pool index entries ≡ None → list_all (names_right major pool) entries ≡ true
all_name_right major pool index [] e = refl
all_name_right major pool index (constant ∷ entries) e =
    elim (cases_Bool (names_right major pool constant)) [
      | inl right ↦ rw right (all_name_right major pool (index + 1) entries (rw right at e))
      | inr wrong ↦ absurd (let no = rw wrong at e in cc)
    ]

pub none_is_wrong : (major : ℕ) (pool : List Const) (index : ℕ) (entries : List Const)
    → list_all (names_right major pool) entries ≡ true → first_wrong major pool index entries ≡ None
none_is_wrong major pool index [] e = refl
none_is_wrong major pool index (constant ∷ entries) e =
    let parts = and_parts (names_right major pool constant)
    (list_all (names_right major pool) entries) e in
    rw parts.0 (none_is_wrong major pool (index + 1) entries parts.1)

-- ---- gaps

neither : (wide missing : Bool) → IsFalse (wide || missing) → (wide ≡ false) × (missing ≡ false)
neither false missing none = (refl, none)
neither true missing none = absurd cc

HasGaps-wide : (constant : Const) (others : List Const) → is_wide constant ≡ true → HasGaps others
    → HasGaps (constant ∷ gap ∷ others)
HasGaps-wide (long value) others wide gaps = gaps
HasGaps-wide (double bits) others wide gaps = gaps
HasGaps-wide constant others wide gaps = absurd cc

HasGaps-plain : (constant : Const) (others : List Const) → is_wide constant ≡ false
    → is_gap constant ≡ false → HasGaps others → HasGaps (constant ∷ others)
HasGaps-plain (long value) others plain there gaps = absurd cc
HasGaps-plain (double bits) others plain there gaps = absurd cc
HasGaps-plain gap others plain there gaps = absurd cc
HasGaps-plain constant others plain there gaps = (refl, gaps)

last_is_plain : (constant : Const) → HasGaps (constant ∷ [])
    → (is_wide constant ≡ false) × (is_gap constant ≡ false)
last_is_plain gap gaps = neither false true gaps.0
last_is_plain constant gaps = neither (is_wide constant) (is_gap constant) gaps.0

first_of_two : (constant next : Const) (others : List Const) → HasGaps (constant ∷ next ∷ others)
    → ((is_wide constant ≡ true) × (next ≡ gap) × HasGaps others) ⊎
    ((is_wide constant ≡ false) × (is_gap constant ≡ false) × HasGaps (next ∷ others))
first_of_two (long value) gap others gaps = inl (refl, refl, gaps)
first_of_two (double bits) gap others gaps = inl (refl, refl, gaps)
first_of_two constant next others gaps = let plain =
    neither (is_wide constant) (is_gap constant) gaps.0 in inr (plain.0, plain.1, gaps.1)

-- ---- what is read is spelled

in_front_ok : (front : List Const) (others : Result (List Const × Input) Cause)
    (read : List Const × Input) → in_front front others ≡ Ok read
    → (behind : List Const × Input) × (others ≡ Ok behind) × ((front ++ behind.0, behind.1) ≡ read)
in_front_ok front (Ok behind) read e = (behind, refl, ok_is (front ++ behind.0, behind.1) read e)
in_front_ok front (Err cause) read e = absurd cc

-- what entries that were read are
record Entries (left : ℕ) (input : Input) (read : List Const × Input) : Type 0 where
  takes : Takes input (flat_map constant_bytes read.0) read.1
  count : length read.0 ≡ left
  gaps : HasGaps read.0
  fit : AllByRecursion FitsConst read.0
  are_short : first_of constant_limit read.0 ≡ None

last_takes : (input : Input) (last : Const × Input) → Takes input (constant_bytes last.0) last.1
    → IsEntry true last.0 → Entries 1 input (last.0 ∷ [], last.1)
last_takes input last takes entry = record {
  takes = rw append-nil takes;
  count = refl;
  gaps = HasGaps-plain last.0 [] entry.has_room entry.is_there tt;
  fit = (entry.fits, tt);
  are_short = rw entry.is_short refl;
}

wide_takes : (left : ℕ) (input : Input) (first : Const × Input) (others : List Const × Input)
    → is_wide first.0 ≡ true → Takes input (constant_bytes first.0) first.1 → IsEntry false first.0
    → Entries left first.1 others → Entries (suc (suc left)) input
    (first.0 ∷ gap ∷ others.0, others.1)
wide_takes left input first others wide takes entry behind = record {
  takes = Takes-then input (constant_bytes first.0) first.1
      (flat_map constant_bytes others.0) others.1 takes behind.takes;
  count = ap (λ (n : ℕ). suc (suc n)) behind.count;
  gaps = HasGaps-wide first.0 others.0 wide behind.gaps;
  fit = (entry.fits, (tt, behind.fit));
  are_short = rw (entry.is_short, behind.are_short) refl;
}

plain_takes : (left : ℕ) (input : Input) (first : Const × Input) (others : List Const × Input)
    → is_wide first.0 ≡ false → Takes input (constant_bytes first.0) first.1 → IsEntry false first.0
    → Entries left first.1 others → Entries (suc left) input (first.0 ∷ others.0, others.1)
plain_takes left input first others plain takes entry behind = record {
  takes = Takes-then input (constant_bytes first.0) first.1
      (flat_map constant_bytes others.0) others.1 takes behind.takes;
  count = ap suc behind.count;
  gaps = HasGaps-plain first.0 others.0 plain entry.is_there behind.gaps;
  fit = (entry.fits, behind.fit);
  are_short = rw (entry.is_short, behind.are_short) refl;
}

entries_take : (index left : ℕ) (input : Input) (read : List Const × Input)
    → entries_at index left input ≡ Ok read → IsBytes input.bytes → Entries left input read
unfolding entries_at
entries_take index zero input read e fits =
    subst (λ (r : List Const × Input). Entries 0 input r) (ok_is ([], input) read e)
    (record { takes = Takes-none input fits; count = refl; gaps = tt; fit = tt; are_short = refl })
entries_take index (suc zero) input read e fits =
    let last = bind_ok (constant_at index true input) (λ last. Ok (last.0 ∷ [], last.1)) read e in
    let taken = constant_takes index true input last.0 last.1 fits in
    subst (λ (r : List Const × Input). Entries 1 input r)
    (ok_is (last.0.0 ∷ [], last.0.1) read last.2) (last_takes input last.0 taken.0 taken.1)
entries_take index (suc (suc left)) input read e fits =
    let first =
    bind_ok (constant_at index false input)
    (λ first. cond (is_wide first.0)
    (in_front (first.0 ∷ gap ∷ []) (entries_at (index + 2) left first.1))
    (in_front (first.0 ∷ []) (entries_at (index + 1) (suc left) first.1))) read e in
    let taken = constant_takes index false input first.0 first.1 fits in
    elim (cases_Bool (is_wide first.0.0)) [
      | inl wide ↦
          let others = in_front_ok (first.0.0 ∷ gap ∷ [])
          (entries_at (index + 2) left first.0.1) read (rw wide at first.2) in
          let behind = entries_take (index + 2) left first.0.1 others.0 others.1 taken.0.rest_fits
          in
          subst (λ (r : List Const × Input). Entries (suc (suc left)) input r) others.2
          (wide_takes left input first.0 others.0 wide taken.0 taken.1 behind)
      | inr plain ↦
          let others = in_front_ok (first.0.0 ∷ [])
          (entries_at (index + 1) (suc left) first.0.1) read (rw plain at first.2) in
          let behind = entries_take (index + 1)
          (suc left) first.0.1 others.0 others.1 taken.0.rest_fits in
          subst (λ (r : List Const × Input). Entries (suc (suc left)) input r) others.2
          (plain_takes (suc left) input first.0 others.0 plain taken.0 taken.1 behind)
    ]

-- ---- what is spelled is read

wide_is_there : (constant : Const) → is_wide constant ≡ true → is_gap constant ≡ false
wide_is_there gap wide = absurd cc
wide_is_there constant wide = refl

wide_again : (index left : ℕ) (first : Const) (others : List Const) → is_wide first ≡ true
    → FitsConst first → constant_limit first ≡ None
    → Finds (entries_at (index + 2) left) others (flat_map constant_bytes others)
    → Finds (entries_at index (suc (suc left))) (first ∷ gap ∷ others)
    (flat_map constant_bytes (first ∷ gap ∷ others))
unfolding entries_at
wide_again index left first others wide fits short found =
    Finds-then (constant_at index false)
    (λ constant rest. cond (is_wide constant)
    (in_front (constant ∷ gap ∷ []) (entries_at (index + 2) left rest))
    (in_front (constant ∷ []) (entries_at (index + 1) (suc left) rest)))
    first (first ∷ gap ∷ others) (constant_bytes first) (flat_map constant_bytes others)
    (constant_again index false first
    (record {
      fits = fits;
      is_short = short;
      is_there = wide_is_there first wide;
      has_room = refl;
    })) (λ at more. rw (wide, found at more) refl)

plain_again : (index left : ℕ) (first : Const) (others : List Const) → is_wide first ≡ false
    → IsEntry false first → Finds (entries_at (index + 1) (suc left)) others
    (flat_map constant_bytes others)
    → Finds (entries_at index (suc (suc left))) (first ∷ others)
    (flat_map constant_bytes (first ∷ others))
unfolding entries_at
plain_again index left first others plain entry found =
    Finds-then (constant_at index false)
    (λ constant rest. cond (is_wide constant)
    (in_front (constant ∷ gap ∷ []) (entries_at (index + 2) left rest))
    (in_front (constant ∷ []) (entries_at (index + 1) (suc left) rest)))
    first (first ∷ others) (constant_bytes first) (flat_map constant_bytes others)
    (constant_again index false first entry) (λ at more. rw (plain, found at more) refl)

entries_again : (index : ℕ) (entries : List Const) → HasGaps entries
    → AllByRecursion FitsConst entries → first_of constant_limit entries ≡ None
    → Finds (entries_at index (length entries)) entries (flat_map constant_bytes entries)
unfolding entries_at
entries_again index [] gaps fit short = Finds-none []
entries_again index (last ∷ []) gaps fit short =
    let plain = last_is_plain last gaps in
    let limit = or_else-parts (constant_limit last) None short in
    let found = Finds-map (constant_at index true) (λ constant. constant ∷ []) last
    (constant_bytes last) (constant_again index true last
    (record { fits = fit.0; is_short = limit.0; is_there = plain.1; has_room = plain.0 })) in
    subst (λ (text : List ℕ). Finds (entries_at index 1) (last ∷ []) text)
    (sym (append-nil (constant_bytes last))) found
entries_again index (first ∷ next ∷ others) gaps fit short =
    let limit = or_else-parts (constant_limit first)
    (first_of constant_limit (next ∷ others)) short in
    let behind = or_else-parts (constant_limit next) (first_of constant_limit others) limit.1 in
    elim (first_of_two first next others gaps) [
      | inl wide ↦
          subst (λ (second : Const). Finds (entries_at index (suc (suc (length others))))
          (first ∷ second ∷ others) (flat_map constant_bytes (first ∷ second ∷ others)))
          (sym wide.1)
          (wide_again index (length others) first others wide.0 fit.0 limit.0
          (entries_again (index + 2) others wide.2 fit.1.1 behind.1))
      | inr plain ↦
          plain_again index (length others) first (next ∷ others) plain.0
          (record { fits = fit.0; is_short = limit.0; is_there = plain.1; has_room = refl })
          (entries_again (index + 1) (next ∷ others) plain.2 fit.1 limit.1)
    ]

-- so many entries
pub record AreEntries (left : ℕ) (entries : List Const) : Type 0 where
  pub count : length entries ≡ left
  pub gaps : HasGaps entries
  pub fit : AllByRecursion FitsConst entries
  pub are_short : first_of constant_limit entries ≡ None

entries_reads : (index left : ℕ)
    → Reads (entries_at index left) (Spelt (flat_map constant_bytes) (AreEntries left))
entries_reads index left = record {
  takes = λ input x e fits.
      let taken = entries_take index left input x e fits in
      record {
        text = flat_map constant_bytes x.0;
        takes = taken.takes;
        spelled = record {
          text_is = refl;
          right = record {
            count = taken.count;
            gaps = taken.gaps;
            fit = taken.fit;
            are_short = taken.are_short;
          };
        };
      };
  finds = λ at text entries spelled more.
      let right = spelled.right in
      rw (spelled.text_is, ← right.count)
      (entries_again index entries right.gaps right.fit right.are_short at more);
}

-- ---- the pool

abbrev pub NameRight : ℕ → List Const → Type 0
NameRight major pool = IsTrue (list_all (names_right major pool) pool)

-- A count of 0 is read as a count of 1 is. Such a pool has no entries.
abbrev pub PoolText : ℕ → Spelling (List Const)
PoolText major = Then (Spelt u2 IsU2)
    (λ count. Then (Spelt (flat_map constant_bytes) (AreEntries (count - 1)))
    (λ entries. Holding (NameRight major (gap ∷ entries)) (Nothing (gap ∷ entries))))

pub pool_reads : (major : ℕ) → Reads (pool_at major) (PoolText major)
unfolding pool_at
pool_reads major =
    Reads-then _ u2_reads (λ count. Reads-then _ (entries_reads 1 (count - 1)) (λ entries.
    unless_ends (first_wrong major (gap ∷ entries) 0 (gap ∷ entries)) (gap ∷ entries)
    (all_name_right major (gap ∷ entries) 0 (gap ∷ entries))
    (none_is_wrong major (gap ∷ entries) 0 (gap ∷ entries))))

-- ---- a pool that isn't empty

-- with no more entries, and no longer texts, than their counts can say
pub record IsCountedPool (major : ℕ) (pool : List Const) : Type 0 where
  pub is_pool : IsPool major pool
  pub count : IsU2 (length pool)
  pub texts : first_of constant_limit pool ≡ None

-- a pool of a gap alone has no class
gap_names : (index : ℕ) → IsTrue (names (gap ∷ []) class_tag index) → ⊥
gap_names zero named = cc
gap_names (suc index) named = cc

-- so the count of one that has a class isn't 0
some_count : (count index : ℕ) (entries : List Const) → length entries ≡ count - 1
    → IsTrue (names (gap ∷ entries) class_tag index) → count ≡ suc (length entries)
some_count zero index [] same named = absurd (gap_names index named)
some_count zero index (entry ∷ entries) same named = absurd (omega (arith, same))
some_count (suc count) index entries same named = omega (arith, same)

pub pool_to : (major index at : ℕ) (text : List ℕ) (pool : List Const) → PoolText major at text pool
    → IsTrue (names pool class_tag index)
    → Spelt (table constant_bytes) (IsCountedPool major) at text pool
pool_to major index at text pool count named =
    let entries = count.others in
    let are = entries.spelled.right in
    let right = entries.others.0 in
    let is = entries.others.1.1 in
    let counted : count.first ≡ suc (length entries.first) =
    some_count count.first index entries.first are.count (rw is at named) in
    rw is (
    record {
      text_is = rw (
        count.parts,
        count.spelled.text_is,
        entries.parts,
        entries.spelled.text_is,
        entries.others.1.0,
        counted,
        append-nil (flat_map constant_bytes entries.first),
      ) refl;
      right = record {
        is_pool = record { entries = (are.gaps, are.fit); names_right = right };
        count = rw counted at count.spelled.right;
        texts = are.are_short;
      };
    })

pub pool_from : (major at : ℕ) (text : List ℕ) (pool : List Const)
    → Spelt (table constant_bytes) (IsCountedPool major) at text pool → PoolText major at text pool
pool_from major at text [] spelt = absurd spelt.right.is_pool.entries
pool_from major at text (gap ∷ entries) spelt =
    let is = spelt.right.is_pool in
    let left : length entries ≡ suc (length entries) - 1 = omega arith in
    let are : AreEntries (suc (length entries) - 1) entries =
    record {
      count = left;
      gaps = is.entries.0;
      fit = is.entries.1;
      are_short = spelt.right.texts;
    } in
    rw spelt.text_is (spelt_then (suc (length entries)) _ spelt.right.count
    (spelt_last entries are (is.names_right, (refl, refl))))
pool_from major at text (constant ∷ entries) spelt = absurd spelt.right.is_pool.entries
