-- Loaders: one behind another, without a file, and one file's.
use Rattle.std.proofs.Common.{◌≡◌, ℕ, ◌+◌, ◌<◌, ◌≤◌, ltb, true, false, List, [], ◌∷◌, ◌++◌, length, take, Option, Some, None, Result, Ok, Err, refl, sym, ap, subst, ◌∙◌, append_assoc, arith, inl, inr}
use Rattle.std.specs.Prelude.{IfSome, IsSomeAnd}
use Rattle.std.proofs.lemmas.List.{length-take, take_all, take-append-le, append-nil}
use Rattle.std.proofs.lemmas.Bool.{cases_lt, le-ltb, lt-ltb}
use Rattle.std.proofs.Math.Seq.{take-append_seam, take-append-add}
use Rattle.jv_model.specs.Outside.{Folder, counted}
use Rattle.jv_model.specs.Refusal as refusals
use Rattle.jv_types.specs.Refusal.{cause_of}
use Rattle.jv_types.specs.declared.refusal.Cause.{Cause}
use Rattle.load_model.specs.Loading.{Answer, Loading, loads, refuses, misses, goes_on, behind_names, ◌>>=◌, answers, within, file_at}
use Rattle.load_model.specs.Reads.{Read}
use Rattle.class_loader.specs.declared.stop.Stop.{Stop}
use Rattle.class_loader.specs.declared.stop.Stop.TheVariants as stops
use Rattle.class_loader.specs.Loads.{LoadsAll, StopIs, StopsAt, IsLoaded}
use Rattle.class_loader.specs.Stops.{read_stop}
use Rattle.jv_types.specs.Sequence.{Sequence}
use Rattle.jv_outer.specs.Outside.{HasCause}
use Rattle.jv_outer.specs.declared.files.ReadError.{ReadError}
use Rattle.jv_outer.specs.declared.files.ReadError.TheVariants as read_errors

-- ---- one loader behind another

-- the files before the first of two loaders, and after the second
abbrev pub both : Read → Read → Read
both first second = record {
  folder = first.folder;
  asked_before = first.asked_before;
  asked_after = second.asked_after;
  faults_before = first.faults_before;
  faults_after = second.faults_after;
}

-- the second begins where the first ended
pub record Follows (first second : Read) : Type 0 where
  pub folder : second.folder ≡ first.folder
  pub asked : second.asked_before ≡ first.asked_after
  pub faults : second.faults_before ≡ first.faults_after

-- the first names are the first ones of a longer list, too
first_of_more : {X : Type 0} (count : ℕ) (names more : List X)
    → (n : ℕ) × (take n (names ++ more) ≡ take count names)
first_of_more count names more = elim (cases_lt (length names) count) [
  | inl above ↦
      (length names, take-append_seam names more ∙ sym (take_all count names (omega arith)))
  | inr below ↦ (count, take-append-le count names more below)
]

goes_on-asked : {A B : Type 0} (asked : List (List ℕ)) (answer : Answer A) (next : A → Loading B)
    → (more : List (List ℕ)) × ((goes_on asked answer next).asked ≡ asked ++ more)
goes_on-asked asked (loads x) next = ((next x).asked, refl)
goes_on-asked asked (refuses item sub cause) next = ([], sym (append-nil asked))
goes_on-asked asked misses next = ([], sym (append-nil asked))

asks_more : (before after names whole more : List (List ℕ)) (count : ℕ) → whole ≡ names ++ more
    → after ≡ before ++ take count names → (n : ℕ) × (after ≡ before ++ take n whole)
asks_more before after names whole more count whole-is after-is =
    let front = first_of_more count names more in (
      front.0,
      after-is ∙ ap (λ l. before ++ l) (sym front.1)
          ∙ ap (λ l. before ++ take front.0 l) (sym whole-is),
    )

module _ {A B : Type 0} (first : Folder → Loading A) (next : Folder → A → Loading B) where
  abbrev chain : Folder → Loading B
  chain folder = first folder >>= next folder

  asked_in_chain : (told : Option Folder) (before after : List (List ℕ))
      → IfSome told (λ folder. (count : ℕ) × (after ≡ before ++ take count (first folder).asked))
      → IfSome told (λ folder. (count : ℕ) × (after ≡ before ++ take count (chain folder).asked))
  asked_in_chain None before after asked = tt
  asked_in_chain (Some folder) before after asked =
      let more = goes_on-asked (first folder).asked (first folder).answer (next folder) in
      asks_more before after (first folder).asked (chain folder).asked more.0 asked.0 more.1 asked.1

  refused_in_chain : (told : Option Folder) (item sub : ℕ) (cause : refusals.Cause)
      → IfSome told (λ folder. (first folder).answer ≡ refuses item sub cause)
      → IfSome told (λ folder. (chain folder).answer ≡ refuses item sub cause)
  refused_in_chain None item sub cause is = tt
  refused_in_chain (Some folder) item sub cause is =
      ap (λ answer. (goes_on (first folder).asked answer (next folder)).answer) is

  why_in_chain : (files : Read) (stop : Stop) → StopIs files first stop → StopIs files chain stop
  why_in_chain files (stops.Refused item sub cause) why =
      (refused_in_chain files.folder item sub (cause_of cause) why.0, why.1)
  why_in_chain files stops.ReadFault why = why
  why_in_chain files stops.NoMemory why = why

  -- where the first one stops, nothing follows
  pub stops_first : (files : Read) (stop : Stop) → StopsAt files first stop
      → StopsAt files chain stop
  stops_first files stop stopped = record {
    asked = asked_in_chain files.folder files.asked_before files.asked_after stopped.asked;
    why = why_in_chain files stop stopped.why;
  }

  -- what was loaded first goes on as the second
  second_of : (folder : Folder) (x : A) → (first folder).answer ≡ loads x
      → chain folder ≡ behind_names (first folder).asked (next folder x)
  second_of folder x is = ap (λ answer. goes_on (first folder).asked answer (next folder)) is

  module _ (x : A) where
    answer_behind : (told told_then : Option Folder) (answer : Answer B) → told_then ≡ told
        → IfSome told (λ folder. (first folder).answer ≡ loads x)
        → IfSome told_then (λ folder. (next folder x).answer ≡ answer)
        → IfSome told (λ folder. (chain folder).answer ≡ answer)
    answer_behind None told_then answer same is then = tt
    answer_behind (Some folder) told_then answer same is then =
        let here : (next folder x).answer ≡ answer =
        subst (λ t. IfSome t (λ folder. (next folder x).answer ≡ answer)) same then in
        ap (λ (loading : Loading B). loading.answer) (second_of folder x is) ∙ here

    all_behind : (told told_then : Option Folder) (before mid after : List (List ℕ))
        → told_then ≡ told
        → IfSome told (λ folder. (first folder).answer ≡ loads x)
        → IfSome told (λ folder. mid ≡ before ++ (first folder).asked)
        → IfSome told_then (λ folder. after ≡ mid ++ (next folder x).asked)
        → IfSome told (λ folder. after ≡ before ++ (chain folder).asked)
    all_behind None told_then before mid after same is asked then = tt
    all_behind (Some folder) told_then before mid after same is asked then =
        let here : after ≡ mid ++ (next folder x).asked =
        subst (λ t. IfSome t (λ folder. after ≡ mid ++ (next folder x).asked)) same then in
        here ∙ ap (λ l. l ++ (next folder x).asked) asked
        ∙ append_assoc before (first folder).asked (next folder x).asked
        ∙ ap (λ (loading : Loading B). before ++ loading.asked) (sym (second_of folder x is))

    some_behind : (told told_then : Option Folder) (before mid after : List (List ℕ))
        → told_then ≡ told
        → IfSome told (λ folder. (first folder).answer ≡ loads x)
        → IfSome told (λ folder. mid ≡ before ++ (first folder).asked)
        → IfSome told_then (λ folder. (count : ℕ)
        × (after ≡ mid ++ take count (next folder x).asked))
        → IfSome told (λ folder. (count : ℕ) × (after ≡ before ++ take count (chain folder).asked))
    some_behind None told_then before mid after same is asked then = tt
    some_behind (Some folder) told_then before mid after same is asked then =
        let here : (count : ℕ) × (after ≡ mid ++ take count (next folder x).asked) =
        subst (λ t. IfSome t (λ folder. (count : ℕ)
        × (after ≡ mid ++ take count (next folder x).asked))) same then in
        let names = (first folder).asked in (
          length names + here.0,
          here.1 ∙ ap (λ l. l ++ take here.0 (next folder x).asked) asked
              ∙ append_assoc before names (take here.0 (next folder x).asked)
              ∙ ap (λ l. before ++ l) (sym (take-append-add names (next folder x).asked here.0))
              ∙ ap (λ (loading : Loading B). before ++ take (length names + here.0) loading.asked)
              (sym (second_of folder x is)),
        )

    module _ (files files_then : Read) (follows : Follows files files_then)
        (loaded : LoadsAll files first x) where
      pub loads_behind : (y : B) → LoadsAll files_then (λ folder. next folder x) y
          → LoadsAll (both files files_then) chain y
      loads_behind y then = record {
        answer = answer_behind files.folder files_then.folder (loads y) follows.folder loaded.answer
            then.answer;
        asked = all_behind files.folder files_then.folder files.asked_before files.asked_after
            files_then.asked_after follows.folder
            loaded.answer loaded.asked
            (subst (λ mid. IfSome files_then.folder (λ folder. files_then.asked_after
            ≡ mid ++ (next folder x).asked)) follows.asked then.asked);
        faults = then.faults ∙ follows.faults ∙ loaded.faults;
      }

      before_is : files_then.faults_before ≡ files.faults_before
      before_is = follows.faults ∙ loaded.faults

      why_behind : (stop : Stop) → StopIs files_then (λ folder. next folder x) stop
          → StopIs (both files files_then) chain stop
      why_behind (stops.Refused item sub cause) why = (
        answer_behind files.folder files_then.folder (refuses item sub (cause_of cause))
            follows.folder loaded.answer why.0,
        why.1 ∙ before_is,
      )
      why_behind stops.ReadFault why = why ∙ ap counted before_is
      why_behind stops.NoMemory (inl same) = inl (same ∙ before_is)
      why_behind stops.NoMemory (inr once) = inr (once ∙ ap counted before_is)

      pub stops_behind : (stop : Stop) → StopsAt files_then (λ folder. next folder x) stop
          → StopsAt (both files files_then) chain stop
      stops_behind stop then = record {
        asked = some_behind files.folder files_then.folder files.asked_before files.asked_after
            files_then.asked_after follows.folder
            loaded.answer loaded.asked
            (subst (λ mid. IfSome files_then.folder (λ folder. (count : ℕ)
            × (files_then.asked_after ≡ mid ++ take count (next folder x).asked))) follows.asked
            then.asked);
        why = why_behind stop then.why;
      }

      pub goes_on_with : {T : Type 0} (view : T → B) (result : Result T Stop)
          → IsLoaded view result files_then (λ folder. next folder x)
          → IsLoaded view result (both files files_then) chain
      goes_on_with view (Ok y) then = loads_behind (view y) then
      goes_on_with view (Err stop) then = stops_behind stop then

-- ---- without a file

-- the files where none was read
abbrev pub unread : Read → Read
unread files = record {
  folder = files.folder;
  asked_before = files.asked_after;
  asked_after = files.asked_after;
  faults_before = files.faults_after;
  faults_after = files.faults_after;
}

pub unread-follows : (files : Read) → Follows files (unread files)
unread-follows files = record { folder = refl; asked = refl; faults = refl }

comes_always : {A : Type 0} (told : Option Folder) (loading : Folder
    → Loading A) (answer : Answer A)
    → ((folder : Folder) → loading folder ≡ answers answer)
    → IfSome told (λ folder. (loading folder).answer ≡ answer)
comes_always None loading answer each = tt
comes_always {A} (Some folder) loading answer each =
    ap (λ (loading : Loading A). loading.answer) (each folder)

asks_none : {A : Type 0} (told : Option Folder) (asked : List (List ℕ)) (loading : Folder
    → Loading A) (answer : Answer A)
    → ((folder : Folder) → loading folder ≡ answers answer)
    → IfSome told (λ folder. asked ≡ asked ++ (loading folder).asked)
asks_none None asked loading answer each = tt
asks_none {A} (Some folder) asked loading answer each =
    sym (append-nil asked)
    ∙ ap (λ (loading : Loading A). asked ++ loading.asked) (sym (each folder))

asks_first_none : {A : Type 0} (told : Option Folder) (asked : List (List ℕ)) (loading : Folder
    → Loading A) (answer : Answer A)
    → ((folder : Folder) → loading folder ≡ answers answer)
    → IfSome told (λ folder. (count : ℕ) × (asked ≡ asked ++ take count (loading folder).asked))
asks_first_none None asked loading answer each = tt
asks_first_none (Some folder) asked loading answer each = (0, sym (append-nil asked))

-- what loading comes to without another file
pub loads_here : {A : Type 0} (files : Read) (loading : Folder → Loading A) (x : A)
    → ((folder : Folder) → loading folder ≡ answers (loads x)) → LoadsAll (unread files) loading x
loads_here files loading x each = record {
  answer = comes_always files.folder loading (loads x) each;
  asked = asks_none files.folder files.asked_after loading (loads x) each;
  faults = refl;
}

pub stops_here : {A : Type 0} (files : Read) (loading : Folder
    → Loading A) (item sub : ℕ) (cause : Cause)
    → ((folder : Folder) → loading folder ≡ answers (refuses item sub (cause_of cause)))
    → StopsAt (unread files) loading (stops.Refused item sub cause)
stops_here files loading item sub cause each = record {
  asked = asks_first_none files.folder files.asked_after loading (refuses item sub (cause_of cause))
      each;
  why = (comes_always files.folder loading (refuses item sub (cause_of cause)) each, refl);
}

pub starves_here : {A : Type 0} (files : Read) (loading : Folder → Loading A)
    → StopsAt (unread files) loading stops.NoMemory
starves_here files loading =
    record { asked = no_name files.folder files.asked_after loading; why = inl refl } where
      no_name : {A : Type 0} (told : Option Folder) (asked : List (List ℕ)) (loading : Folder
          → Loading A)
          → IfSome told
          (λ folder. (count : ℕ) × (asked ≡ asked ++ take count (loading folder).asked))
      no_name None asked loading = tt
      no_name (Some folder) asked loading = (0, sym (append-nil asked))

-- ---- one file

module _ (limit item sub : ℕ) (bytes : List ℕ) where
  within_short : (found : Option (List ℕ)) → IsSomeAnd found (λ file. bytes ≡ take (limit + 1) file)
      → length bytes ≤ limit
      → within limit item sub found ≡ loads bytes
  within_short None there short = absurd there
  within_short (Some file) there short =
      let front : length (take (limit + 1) file) ≤ limit = rw (← there) short in
      let whole : take (limit + 1) file ≡ file =
      take_all (limit + 1) file (omega (arith, length-take (limit + 1) file)) in
      let fits : ltb limit (length (take (limit + 1) file)) ≡ false = le-ltb _ _ front in
      rw fits (ap loads (sym (there ∙ whole)))

  within_long : (found : Option (List ℕ)) → IsSomeAnd found (λ file. bytes ≡ take (limit + 1) file)
      → limit < length bytes
      → within limit item sub found
      ≡ refuses item sub (refusals.above_limit refusals.whole_file (length bytes))
  within_long None there long = absurd there
  within_long (Some file) there long =
      let front : limit < length (take (limit + 1) file) = rw (← there) long in
      let above : ltb limit (length (take (limit + 1) file)) ≡ true = lt-ltb _ _ front in
      rw above (ap
      (λ (front : List ℕ).
      refuses item sub (refusals.above_limit refusals.whole_file (length front))) (sym there))

module _ (limit item sub : ℕ) (name : List ℕ) where
  abbrev file : Folder → Loading (List ℕ)
  file folder = file_at folder name limit item sub

  asks_file : (told : Option Folder) (before after : List (List ℕ)) → after ≡ before ++ name ∷ []
      → IfSome told (λ folder. after ≡ before ++ (file folder).asked)
  unfolding file_at
  asks_file None before after is = tt
  asks_file (Some folder) before after is = is

  asks_file_first : (told : Option Folder) (before after : List (List ℕ))
      → after ≡ before ++ name ∷ []
      → IfSome told (λ folder. (count : ℕ) × (after ≡ before ++ take count (file folder).asked))
  unfolding file_at
  asks_file_first None before after is = tt
  asks_file_first (Some folder) before after is = (1, is)

  short_file : (told : Option Folder) (bytes : List ℕ)
      → IfSome told (λ folder. IsSomeAnd (folder name) (λ file. bytes ≡ take (limit + 1) file))
      → length bytes ≤ limit → IfSome told (λ folder. (file folder).answer ≡ loads bytes)
  unfolding file_at
  short_file None bytes there short = tt
  short_file (Some folder) bytes there short =
      within_short limit item sub bytes (folder name) there short

  long_file : (told : Option Folder) (bytes : List ℕ)
      → IfSome told (λ folder. IsSomeAnd (folder name) (λ file. bytes ≡ take (limit + 1) file))
      → limit < length bytes
      → IfSome told (λ folder. (file folder).answer
      ≡ refuses item sub (refusals.above_limit refusals.whole_file (length bytes)))
  unfolding file_at
  long_file None bytes there long = tt
  long_file (Some folder) bytes there long =
      within_long limit item sub bytes (folder name) there long

  module _ (files : Read) (asked : files.asked_after ≡ files.asked_before ++ name ∷ []) where
    pub file_loads : (bytes : List ℕ)
        → IfSome files.folder
        (λ folder. IsSomeAnd (folder name) (λ file. bytes ≡ take (limit + 1) file))
        → length bytes ≤ limit
        → files.faults_after ≡ files.faults_before → LoadsAll files file bytes
    file_loads bytes there short quiet = record {
      answer = short_file files.folder bytes there short;
      asked = asks_file files.folder files.asked_before files.asked_after asked;
      faults = quiet;
    }

    pub file_stops : (stop : Stop) → StopIs files file stop → StopsAt files file stop
    file_stops stop why =
        record {
          asked = asks_file_first files.folder files.asked_before files.asked_after asked;
          why = why;
        }

    pub file_is_long : (bytes : List ℕ) (cause : Cause)
        → IfSome files.folder
        (λ folder. IsSomeAnd (folder name) (λ file. bytes ≡ take (limit + 1) file))
        → limit < length bytes → files.faults_after ≡ files.faults_before
        → cause_of cause ≡ refusals.above_limit refusals.whole_file (length bytes)
        → StopsAt files file (stops.Refused item sub cause)
    file_is_long bytes cause there long quiet is = file_stops (stops.Refused item sub cause) (
      subst (λ refusal. IfSome files.folder (λ folder. (file folder).answer
          ≡ refuses item sub refusal)) (sym is) (long_file files.folder bytes there long),
      quiet,
    )

-- what a failed read is told as
pub read_why : {A : Type 0} (files : Read) (loading : Folder → Loading A) (error : ReadError)
    → HasCause {T =
    Sequence ℕ} read_errors.Failed read_errors.NoMemory files.faults_before files.faults_after
    (Err error) → StopIs files loading (read_stop error)
read_why files loading read_errors.Failed cause = cause.failed refl
read_why files loading read_errors.NoMemory cause = cause.starved refl

-- ---- loadings that are the same

module _ {A : Type 0} (one other : Folder → Loading A) (each : (folder : Folder)
    → one folder ≡ other folder) where
  same_where_told : (P : Loading A → Type 0) (told : Option Folder)
      → IfSome told (λ folder. P (one folder)) → IfSome told (λ folder. P (other folder))
  same_where_told P None is = tt
  same_where_told P (Some folder) is = subst P (each folder) is

  same_why : (files : Read) (stop : Stop) → StopIs files one stop → StopIs files other stop
  same_why files (stops.Refused item sub cause) why = (
    same_where_told (λ loading. loading.answer ≡ refuses item sub (cause_of cause)) files.folder
        why.0,
    why.1,
  )
  same_why files stops.ReadFault why = why
  same_why files stops.NoMemory why = why

  pub same_loading : {T : Type 0} (view : T → A) (result : Result T Stop) (files : Read)
      → IsLoaded view result files one → IsLoaded view result files other
  same_loading view (Ok x) files loaded = record {
    answer = same_where_told (λ loading. loading.answer
        ≡ loads (view x)) files.folder loaded.answer;
    asked = same_where_told (λ loading. files.asked_after
        ≡ files.asked_before ++ loading.asked) files.folder loaded.asked;
    faults = loaded.faults;
  }
  same_loading view (Err stop) files stopped = record {
    asked = same_where_told (λ loading. (count : ℕ)
        × (files.asked_after ≡ files.asked_before ++ take count loading.asked)) files.folder
        stopped.asked;
    why = same_why files stop stopped.why;
  }
