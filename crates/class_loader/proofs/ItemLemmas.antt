-- Items, one behind another.
use Rattle.std.proofs.Common.{◌≡◌, ℕ, ◌+◌, List, [], ◌∷◌, ◌++◌, length, take, Option, Some, None, refl, sym, ap, subst, ◌∙◌, append_assoc, inl, inr}
use Rattle.std.specs.Prelude.{IfSome}
use Rattle.std.proofs.lemmas.List.{append-nil}
use Rattle.std.proofs.Math.Seq.{take-append-add}
use Rattle.jv_model.specs.LoadedClass.{LoadedClass}
use Rattle.jv_model.specs.Outside.{Folder, counted}
use Rattle.jv_model.specs.Refusal as refusals
use Rattle.jv_types.specs.Refusal.{cause_of}
use Rattle.manifest_model.specs.Items.{ClassItem}
use Rattle.manifest_model.specs.Manifest.{ManifestItem, class_item, update_item, UpdateItem}
use Rattle.load_model.specs.Loading.{Answer, Loading, loads, refuses, misses, goes_on, behind_names, yields}
use Rattle.load_model.specs.LoadClasses.{load_class}
use Rattle.load_model.specs.LoadItems.{load_items}
use Rattle.load_model.specs.Reads.{Read}
use Rattle.class_loader.specs.declared.stop.Stop.{Stop}
use Rattle.class_loader.specs.declared.stop.Stop.TheVariants as stops
use Rattle.class_loader.specs.Items.{answer_behind, behind_classes, CameSoFar}
use Rattle.class_loader.specs.Loads.{LoadsAll, StopIs, StopsAt}
use Rattle.class_loader.proofs.Loaders.{both, Follows, unread, unread-follows, stops_first, stops_behind, starves_here}

abbrev Classes : Type 0
Classes = Loading (List LoadedClass)

-- ---- classes in front of what loading comes to

in_front : (class : LoadedClass) (asked : List (List ℕ)) (answer : Answer (List LoadedClass))
    → goes_on asked answer (λ rest. yields (class ∷ rest))
    ≡ behind_classes (class ∷ []) (record { asked = asked; answer = answer })
in_front class asked (loads rest) =
    ap (λ names. record { asked = names; answer = loads (class ∷ rest) }) (append-nil asked)
in_front class asked (refuses item sub cause) = refl
in_front class asked misses = refl

nothing_in_front : (answer : Answer (List LoadedClass)) → answer_behind [] answer ≡ answer
nothing_in_front (loads rest) = refl
nothing_in_front (refuses item sub cause) = refl
nothing_in_front misses = refl

both_in_front : (front added : List LoadedClass) (answer : Answer (List LoadedClass))
    → answer_behind front (answer_behind added answer) ≡ answer_behind (front ++ added) answer
both_in_front front added (loads rest) = ap loads (sym (append_assoc front added rest))
both_in_front front added (refuses item sub cause) = refl
both_in_front front added misses = refl

came_behind : (names more : List (List ℕ)) (front added : List LoadedClass) (loading : Classes)
    → behind_names names (behind_classes front (behind_names more (behind_classes added loading)))
    ≡ behind_names (names ++ more) (behind_classes (front ++ added) loading)
came_behind names more front added loading =
    let asked = sym (append_assoc names more loading.asked) in
    let answer = both_in_front front added loading.answer in
    ap (λ asked. record { asked = asked; answer = answer_behind front (answer_behind added loading.answer) })
    asked
    ∙ ap (λ answer. record { asked = (names ++ more) ++ loading.asked; answer = answer }) answer

-- ---- how far loading came

module _ (whole : Folder → Classes) where
  -- at first nothing was loaded
  pub came_nowhere : (files : Read) → CameSoFar (unread files) whole whole []
  came_nowhere files = record { faults = refl; told = no_names files.folder files.asked_after } where
    no_names : (told : Option Folder) (asked : List (List ℕ))
        → IfSome told (λ folder. (names : List (List ℕ)) × (asked ≡ asked ++ names)
        × (whole folder ≡ behind_names names (behind_classes [] (whole folder))))
    no_names None asked = tt
    no_names (Some folder) asked = (
      [],
      sym (append-nil asked),
      ap (λ answer. record { asked = (whole folder).asked; answer = answer })
          (sym (nothing_in_front (whole folder).answer)),
    )

  -- what came first, and then what came behind it
  pub came_on : (mid rest : Folder → Classes) (front added : List LoadedClass) (files files_then : Read)
      → Follows files files_then → CameSoFar files whole mid front
      → CameSoFar files_then mid rest added
      → CameSoFar (both files files_then) whole rest (front ++ added)
  came_on mid rest front added files files_then follows came then = record {
    faults = then.faults ∙ follows.faults ∙ came.faults;
    told = on files.folder files_then.folder files.asked_before files.asked_after
        files_then.asked_before files_then.asked_after follows.folder follows.asked came.told
        then.told;
  } where
    on : (told told_then : Option Folder) (before mid_asked mid_then after : List (List ℕ))
        → told_then ≡ told → mid_then ≡ mid_asked
        → IfSome told (λ folder. (names : List (List ℕ)) × (mid_asked ≡ before ++ names)
        × (whole folder ≡ behind_names names (behind_classes front (mid folder))))
        → IfSome told_then (λ folder. (names : List (List ℕ)) × (after ≡ mid_then ++ names)
        × (mid folder ≡ behind_names names (behind_classes added (rest folder))))
        → IfSome told (λ folder. (names : List (List ℕ)) × (after ≡ before ++ names)
        × (whole folder ≡ behind_names names (behind_classes (front ++ added) (rest folder))))
    on None told_then before mid_asked mid_then after same asked first then = tt
    on (Some folder) told_then before mid_asked mid_then after same asked first then =
        let here : (names : List (List ℕ)) × (after ≡ mid_then ++ names)
        × (mid folder ≡ behind_names names (behind_classes added (rest folder))) =
        subst (λ told. IfSome told (λ folder. (names : List (List ℕ)) × (after ≡ mid_then ++ names)
        × (mid folder ≡ behind_names names (behind_classes added (rest folder))))) same then in (
          first.0 ++ here.0,
          here.1 ∙ ap (λ names. names ++ here.0) (asked ∙ first.1)
              ∙ append_assoc before first.0 here.0,
          first.2 ∙ ap (λ loading. behind_names first.0 (behind_classes front loading)) here.2
              ∙ came_behind first.0 here.0 front added (rest folder),
        )

  -- at the end all was loaded
  pub came_to_end : (rest : Folder → Classes) (front : List LoadedClass) (files : Read)
      → ((folder : Folder) → rest folder ≡ yields []) → CameSoFar files whole rest front
      → LoadsAll files whole front
  came_to_end rest front files each came = record {
    answer = answer files.folder files.asked_before files.asked_after came.told;
    asked = asked files.folder files.asked_before files.asked_after came.told;
    faults = came.faults;
  } where
    here : (folder : Folder) (names : List (List ℕ))
        → whole folder ≡ behind_names names (behind_classes front (rest folder))
        → whole folder ≡ record { asked = names; answer = loads front }
    here folder names is =
        is ∙ ap (λ loading. behind_names names (behind_classes front loading)) (each folder)
        ∙ ap (λ names. record { asked = names; answer = loads (front ++ []) }) (append-nil names)
        ∙ ap (λ classes. record { asked = names; answer = loads classes }) (append-nil front)

    answer : (told : Option Folder) (before after : List (List ℕ))
        → IfSome told (λ folder. (names : List (List ℕ)) × (after ≡ before ++ names)
        × (whole folder ≡ behind_names names (behind_classes front (rest folder))))
        → IfSome told (λ folder. (whole folder).answer ≡ loads front)
    answer None before after came = tt
    answer (Some folder) before after came =
        ap (λ (loading : Classes). loading.answer) (here folder came.0 came.2)

    asked : (told : Option Folder) (before after : List (List ℕ))
        → IfSome told (λ folder. (names : List (List ℕ)) × (after ≡ before ++ names)
        × (whole folder ≡ behind_names names (behind_classes front (rest folder))))
        → IfSome told (λ folder. after ≡ before ++ (whole folder).asked)
    asked None before after came = tt
    asked (Some folder) before after came =
        came.1 ∙ ap (λ (loading : Classes). before ++ loading.asked)
        (sym (here folder came.0 came.2))

  -- a stop further on is a stop of the whole
  module _ (mid : Folder → Classes) (front : List LoadedClass) (files files_then : Read)
      (follows : Follows files files_then) (came : CameSoFar files whole mid front) where
    asks_behind : (told told_then : Option Folder) (before mid_asked mid_then after : List (List ℕ))
        → told_then ≡ told → mid_then ≡ mid_asked
        → IfSome told (λ folder. (names : List (List ℕ)) × (mid_asked ≡ before ++ names)
        × (whole folder ≡ behind_names names (behind_classes front (mid folder))))
        → IfSome told_then (λ folder. (count : ℕ) × (after ≡ mid_then ++ take count (mid folder).asked))
        → IfSome told (λ folder. (count : ℕ) × (after ≡ before ++ take count (whole folder).asked))
    asks_behind None told_then before mid_asked mid_then after same asked first then = tt
    asks_behind (Some folder) told_then before mid_asked mid_then after same asked first then =
        let here : (count : ℕ) × (after ≡ mid_then ++ take count (mid folder).asked) =
        subst (λ told. IfSome told (λ folder. (count : ℕ)
        × (after ≡ mid_then ++ take count (mid folder).asked))) same then in
        let names = first.0 in (
          length names + here.0,
          here.1 ∙ ap (λ l. l ++ take here.0 (mid folder).asked) (asked ∙ first.1)
              ∙ append_assoc before names (take here.0 (mid folder).asked)
              ∙ ap (λ l. before ++ l) (sym (take-append-add names (mid folder).asked here.0))
              ∙ ap (λ (loading : Classes). before ++ take (length names + here.0) loading.asked)
              (sym first.2),
        )

    refused_behind : (told told_then : Option Folder) (before after : List (List ℕ))
        (item sub : ℕ) (cause : refusals.Cause)
        → told_then ≡ told
        → IfSome told (λ folder. (names : List (List ℕ)) × (after ≡ before ++ names)
        × (whole folder ≡ behind_names names (behind_classes front (mid folder))))
        → IfSome told_then (λ folder. (mid folder).answer ≡ refuses item sub cause)
        → IfSome told (λ folder. (whole folder).answer ≡ refuses item sub cause)
    refused_behind None told_then before after item sub cause same first then = tt
    refused_behind (Some folder) told_then before after item sub cause same first then =
        let here : (mid folder).answer ≡ refuses item sub cause =
        subst (λ told. IfSome told (λ folder. (mid folder).answer ≡ refuses item sub cause)) same
        then in
        ap (λ (loading : Classes). loading.answer) first.2 ∙ ap (answer_behind front) here

    before_is : files_then.faults_before ≡ files.faults_before
    before_is = follows.faults ∙ came.faults

    why_behind : (stop : Stop) → StopIs files_then mid stop → StopIs (both files files_then) whole stop
    why_behind (stops.Refused item sub cause) why = (
      refused_behind files.folder files_then.folder files.asked_before files.asked_after item sub
          (cause_of cause) follows.folder came.told why.0,
      why.1 ∙ before_is,
    )
    why_behind stops.ReadFault why = why ∙ ap counted before_is
    why_behind stops.NoMemory (inl same) = inl (same ∙ before_is)
    why_behind stops.NoMemory (inr once) = inr (once ∙ ap counted before_is)

    pub stops_further : (stop : Stop) → StopsAt files_then mid stop
        → StopsAt (both files files_then) whole stop
    stops_further stop then = record {
      asked = asks_behind files.folder files_then.folder files.asked_before files.asked_after
          files_then.asked_before files_then.asked_after follows.folder follows.asked came.told
          then.asked;
      why = why_behind stop then.why;
    }

-- ---- one item

module _ (number before : ℕ) where
  -- an update is passed over
  pub update_passed : (asked : UpdateItem) (others : List ManifestItem) (files : Read)
      → CameSoFar (unread files)
      (λ folder. load_items folder number before (update_item asked ∷ others))
      (λ folder. load_items folder (number + 1) before others) []
  unfolding load_items
  update_passed asked others files =
      came_nowhere (λ folder. load_items folder (number + 1) before others) files

  module _ (asked : ClassItem) (others : List ManifestItem) where
    abbrev item : Folder → Loading (LoadedClass × ℕ)
    item folder = load_class folder number before asked

    abbrev behind_item : Folder → LoadedClass × ℕ → Classes
    behind_item folder first =
        goes_on (load_items folder (number + 1) first.1 others).asked
        (load_items folder (number + 1) first.1 others).answer (λ rest. yields (first.0 ∷ rest))

    -- a class was added
    pub class_added : (class : LoadedClass) (bytes : ℕ) (files : Read)
        → LoadsAll files item (class, bytes)
        → CameSoFar files (λ folder. load_items folder number before (class_item asked ∷ others))
        (λ folder. load_items folder (number + 1) bytes others) (class ∷ [])
    unfolding load_items
    class_added class bytes files loaded = record {
      faults = loaded.faults;
      told = added files.folder files.asked_before files.asked_after loaded.answer loaded.asked;
    } where
      added : (told : Option Folder) (before_asked after : List (List ℕ))
          → IfSome told (λ folder. (item folder).answer ≡ loads (class, bytes))
          → IfSome told (λ folder. after ≡ before_asked ++ (item folder).asked)
          → IfSome told (λ folder. (names : List (List ℕ)) × (after ≡ before_asked ++ names)
          × (goes_on (item folder).asked (item folder).answer (behind_item folder)
          ≡ behind_names names
          (behind_classes (class ∷ []) (load_items folder (number + 1) bytes others))))
      added None before_asked after is asked = tt
      added (Some folder) before_asked after is asked = (
        (item folder).asked,
        asked,
        ap (λ answer. goes_on (item folder).asked answer (behind_item folder)) is
            ∙ ap (behind_names (item folder).asked)
            (in_front class (load_items folder (number + 1) bytes others).asked
            (load_items folder (number + 1) bytes others).answer),
      )

    -- where its class stops, or isn't kept
    pub class_stops : (files : Read) (stop : Stop) → StopsAt files item stop
        → StopsAt files (λ folder. load_items folder number before (class_item asked ∷ others)) stop
    unfolding load_items
    class_stops files stop stopped = stops_first item behind_item files stop stopped

    pub class_starves : (found : LoadedClass × ℕ) (files : Read) → LoadsAll files item found
        → StopsAt files (λ folder. load_items folder number before (class_item asked ∷ others))
        stops.NoMemory
    unfolding load_items
    class_starves found files loaded =
        stops_behind item behind_item found files (unread files) (unread-follows files) loaded
        stops.NoMemory (starves_here files (λ folder. behind_item folder found))
