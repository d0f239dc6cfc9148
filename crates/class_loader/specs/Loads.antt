-- What a loader answers, as the definitions see it.
use Rattle.std.specs.Prelude.{◌≡◌, ℕ, ◌++◌, ◌⊎◌, Result, IfSome, MatchResult, take}
use Rattle.jv_types.specs.Refusal.{cause_of}
use Rattle.jv_model.specs.Outside.{Folder, counted}
use Rattle.load_model.specs.Loading.{Answer, Loading, loads, refuses}
use Rattle.load_model.specs.Reads.{Read}
use Rattle.class_loader.specs.declared.stop.Stop.{Stop}
use Rattle.class_loader.specs.declared.stop.Stop.TheVariants as stops

-- where the files are told, loading comes to this answer
abbrev pub ComesTo : {A : Type 0} → Read → (Folder → Loading A) → Answer A → Type 0
ComesTo files loading answer = IfSome files.folder (λ folder. (loading folder).answer ≡ answer)

-- A loader that got to its end: it asked for all names that loading comes to, and no read failed.
pub record LoadsAll {A : Type 0} (files : Read) (loading : Folder → Loading A) (x : A) : Type 0 where
  pub answer : ComesTo files loading (loads x)
  pub asked : IfSome files.folder (λ folder. files.asked_after
      ≡ files.asked_before ++ (loading folder).asked)
  pub faults : files.faults_after ≡ files.faults_before

-- why a loader stopped
abbrev pub StopIs : {A : Type 0} → Read → (Folder → Loading A) → Stop → Type 0
StopIs files loading (stops.Refused item sub cause) =
    ComesTo files loading (refuses item sub (cause_of cause))
    × (files.faults_after ≡ files.faults_before)
StopIs files loading stops.ReadFault = files.faults_after ≡ counted files.faults_before
StopIs files loading stops.NoMemory =
    (files.faults_after ≡ files.faults_before) ⊎ (files.faults_after ≡ counted files.faults_before)

-- A loader that stopped: the names that it asked for are the first ones that loading comes to.
pub record StopsAt {A : Type 0} (files : Read) (loading : Folder → Loading A) (stop : Stop) : Type 0
  where
    pub asked : IfSome files.folder (λ folder. (count : ℕ)
        × (files.asked_after ≡ files.asked_before ++ take count (loading folder).asked))
    pub why : StopIs files loading stop

-- what a loader answers, its value seen by view
abbrev pub IsLoaded : {T A : Type 0} → (T → A) → Result T Stop → Read → (Folder → Loading A) → Type 0
IsLoaded view result files loading =
    MatchResult result (λ x. LoadsAll files loading (view x)) (λ stop. StopsAt files loading stop)
