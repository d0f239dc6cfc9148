-- Offsets to places, and lists of them: what is read is spelled where it leads to places.
use Rattle.std.proofs.Common.{◌≡◌, ℕ, zero, suc, ◌+◌, List, [], ◌∷◌, length, refl, sym, ap, subst, ℤ}
use Rattle.std.specs.List.{flat_map, AllByRecursion}
use Rattle.code_model.specs.OperandReading.{Site, target_at, targets_at}
use Rattle.code_model.specs.SpellsOperands.{FitsAsSigned, signed_bytes, offset_of, offset_bytes, IsNear}
use Rattle.class_laws.proofs.Readers.{Reads, Many, Reads-many}
use Rattle.code_laws.proofs.Signed.{IsWidth, four_bytes, Led, target_reads, IsPlace, led_near, near_led}

-- an offset from a place to a place is spelled as the target's
pub led_is_near :
    (pc count : ℕ) → IsWidth count → IsPlace pc → (at : ℕ) (text : List ℕ) (target : ℕ)
    → IsPlace target
    → Led pc count at text target → (text ≡ offset_bytes count pc target) × IsNear count pc target
led_is_near pc count width here at text target there led =
    let same = led_near pc led.0 target here there (width.narrow led.0 led.1.right) led.2 in
    subst (λ (z : ℤ). (text ≡ signed_bytes count z) × FitsAsSigned count z) same
    (led.1.text_is, led.1.right)

-- a near target is at the offset that is spelled
pub near_is_led :
    (pc count at target : ℕ) → IsNear count pc target
    → Led pc count at (offset_bytes count pc target) target
near_is_led pc count at target near = (
  offset_of pc target,
  record { text_is = refl; right = near },
  near_led pc (offset_of pc target) target refl,
)

-- ---- so many targets

abbrev pub Targets : ℕ → ℕ → ℕ → List ℕ → List ℕ → Type 0
Targets pc = Many (Led pc 4)

-- so many targets are read one after the other
pub targets_reads :
    (site : Site) (count : ℕ) → Reads (targets_at site count) (Targets site.pc count)
unfolding targets_at
targets_reads site =
    Reads-many (target_at site 4) (targets_at site) (Led site.pc 4) (target_reads site 4 four_bytes)
    (record { none = refl; more = λ count. refl })

pub record NearTargets (pc count : ℕ) (text : List ℕ) (targets : List ℕ) : Type 0 where
  pub as_many : length targets ≡ count
  pub near : AllByRecursion (IsNear 4 pc) targets
  pub text_is : text ≡ flat_map (offset_bytes 4 pc) targets

-- targets that are read are spelled, where they are places
pub targets_are_near :
    (pc : ℕ) → IsPlace pc → (count at : ℕ) (text : List ℕ) (targets : List ℕ)
    → AllByRecursion IsPlace targets → Targets pc count at text targets
    → NearTargets pc count text targets
targets_are_near pc here zero at text targets places many =
    rw (many.0, many.1) (record { as_many = refl; near = tt; text_is = refl })
targets_are_near pc here (suc count) at text targets places many =
    let made = many.others in
    let its : AllByRecursion IsPlace (many.first ∷ made.0) =
    subst (λ (xs : List ℕ). AllByRecursion IsPlace xs) made.2 places in
    let first = led_is_near pc 4 four_bytes here at many.front many.first its.0 many.spelled in
    let others = targets_are_near pc here count _ many.rest made.0 its.1 made.1 in
    subst (λ (xs : List ℕ). NearTargets pc (suc count) text xs) (sym made.2) (record {
      as_many = ap suc others.as_many;
      near = (first.1, others.near);
      text_is = rw (many.parts, first.0, others.text_is) refl;
    })

-- near targets are read as they are spelled
pub near_are_targets :
    (pc at : ℕ) (targets : List ℕ) → AllByRecursion (IsNear 4 pc) targets
    → Targets pc (length targets) at (flat_map (offset_bytes 4 pc) targets) targets
near_are_targets pc at [] near = (refl, refl)
near_are_targets pc at (target ∷ targets) near = record {
  first = target;
  front = offset_bytes 4 pc target;
  rest = flat_map (offset_bytes 4 pc) targets;
  parts = refl;
  spelled = near_is_led pc 4 at target near.0;
  others =
      (targets, near_are_targets pc (at + length (offset_bytes 4 pc target)) targets near.1, refl);
}
