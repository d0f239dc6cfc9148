-- Objects as they are copied: each reference becomes the forward of the object that it leads to.
use Rattle.std.specs.Prelude.{◌≡◌, ◌≢◌, ℕ, suc, ◌-◌, ◌<◌, Bool, true, false, List, [], ◌∷◌, ◌==◌, if◌then◌else◌, length, map, flat_map, slice_get, slice_index, option_to_list, IfSome, Some}
use Rattle.heap_face.specs.declared.address.Addr.{Addr}
use Rattle.heap_face.specs.declared.layout.Layouts.{Layouts}
use Rattle.heap_face.specs.Heap.{Stored}
use Rattle.heap_face.specs.Collection.{refers_at}

abbrev pub forwarded_word : List ℕ → Bool → ℕ → ℕ
forwarded_word forwards false word = word
forwarded_word forwards true word = if word == 0 then word else slice_index forwards (word - 1)

-- the words of an object, from a place on
abbrev pub forwarded : List ℕ → (ℕ → Bool) → ℕ → List ℕ → List ℕ
forwarded forwards refers at [] = []
forwarded forwards refers at (word ∷ words) =
    forwarded_word forwards (refers at) word ∷ forwarded forwards refers (suc at) words

abbrev pub copy_of : Layouts → List ℕ → Stored ℕ → Stored ℕ
copy_of layouts forwards object =
    record object { contents = forwarded forwards (refers_at layouts object.shape) 0 object.contents }

-- the copy of the object at a place
abbrev pub copies_at : Layouts → List (Stored ℕ) → List ℕ → ℕ → List (Stored ℕ)
copies_at layouts objects forwards place = map (copy_of layouts forwards) (option_to_list (slice_get objects place))

abbrev pub copies : Layouts → List (Stored ℕ) → List ℕ → List ℕ → List (Stored ℕ)
copies layouts objects forwards order = flat_map (copies_at layouts objects forwards) order

-- where the object of a root lies now
abbrev pub forwarded_root : List ℕ → Addr → Addr
forwarded_root forwards root = record { 0 = slice_index forwards (root.0 - 1) }

-- each reference that isn't null leads to one of so many objects
abbrev pub EachHasForward : (ℕ → Bool) → ℕ → List ℕ → Type 0
EachHasForward refers count words = (at : ℕ) → at < length words → refers at ≡ true
    → slice_index words at ≢ 0 → slice_index words at - 1 < count

abbrev pub HasForwards : Layouts → ℕ → Stored ℕ → Type 0
HasForwards layouts count object = EachHasForward (refers_at layouts object.shape) count object.contents

-- so do the references of each object of an order
abbrev pub IsForwarded : Layouts → List (Stored ℕ) → List ℕ → Type 0
IsForwarded layouts objects order = (k place : ℕ) → slice_get order k ≡ Some place
    → IfSome (slice_get objects place) (HasForwards layouts (length objects))
