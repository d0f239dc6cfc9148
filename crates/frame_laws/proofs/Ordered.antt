-- In an orderly world `is_sub` is an order, as far as subsumption needs it.
use Rattle.std.proofs.Common.{◌≡◌, ℕ, List, true, sym, subst, ◌||◌, bytes_eq, inl, inr}
use Rattle.std.specs.Prelude.{◌⊎◌}
use Rattle.std.proofs.lemmas.Bool.{or_left, or_right}
use Rattle.world_model.specs.World.{World}
use Rattle.world_model.specs.BootNames.{java_object}
use Rattle.world_model.specs.Supertypes.{is_sub}
use Rattle.typing_model.specs.Assignable.{names_interface}
use Rattle.link_laws.specs.Above.{IsAbove, directly, further, IsAtOrAbove}
use Rattle.link_laws.proofs.Names.{text_same}
use Rattle.link_laws.proofs.Above.{above_above, first_step, below_is_there}
use Rattle.link_laws.proofs.Orders.{sub_is_above, is_sub_is_closure}
use Rattle.frame_laws.specs.Worlds.{IsOrderly}
use Rattle.frame_laws.proofs.Subsumption.{Orders}

module _ (world : World) (is : IsOrderly world) where
  -- what is above a class is a supertype of it
  pub above_is_sub : (a b : List ℕ) → IsAbove world a b → is_sub world a b ≡ true
  above_is_sub a b up =
      let first = first_step world a b up in
      (is_sub_is_closure world a b is.sound (below_is_there world a first.0 first.1)).1 (inr up)

  transitive_by : (a b c : List ℕ) → IsAtOrAbove world a b → IsAtOrAbove world b c → is_sub world b c ≡ true
      → is_sub world a c ≡ true
  transitive_by a b c (inl same) next sub = subst (λ (x : List ℕ). is_sub world x c ≡ true) same sub
  transitive_by a b c (inr up) (inl same) sub =
      above_is_sub a c (subst (λ (x : List ℕ). IsAbove world a x) (sym same) up)
  transitive_by a b c (inr up) (inr next) sub = above_is_sub a c (above_above world a b c up next)

  -- above an interface are interfaces and Object
  interface_up : (a b : List ℕ) → names_interface world a ≡ true → IsAbove world a b
      → (b ≡ java_object) ⊎ (names_interface world b ≡ true)
  interface_up a b h (directly _ _ step) = is.above_interface a b h step
  interface_up a b h (further _ next _ step more) = go (is.above_interface a next h step) (λ k. interface_up next b k more)
    where
      go : (next ≡ java_object) ⊎ (names_interface world next ≡ true)
          → (names_interface world next ≡ true → (b ≡ java_object) ⊎ (names_interface world b ≡ true))
          → (b ≡ java_object) ⊎ (names_interface world b ≡ true)
      go (inl same) rest =
          let up = first_step world java_object b (subst (λ (x : List ℕ). IsAbove world x b) same more) in
          absurd (is.topmost up.0 up.1)
      go (inr k) rest = rest k

  holds : (b : List ℕ) → (b ≡ java_object) ⊎ (names_interface world b ≡ true)
      → (bytes_eq b java_object || names_interface world b) ≡ true
  holds b (inl same) = or_left (bytes_eq b java_object) (names_interface world b) (text_same b java_object same)
  holds b (inr k) = or_right (bytes_eq b java_object) (names_interface world b) k

  interface_by : (a b : List ℕ) → names_interface world a ≡ true → IsAtOrAbove world a b
      → (bytes_eq b java_object || names_interface world b) ≡ true
  interface_by a b h (inl same) = holds b (inr (subst (λ (x : List ℕ). names_interface world x ≡ true) (sym same) h))
  interface_by a b h (inr up) = holds b (interface_up a b h up)

  object_by : (b : List ℕ) → IsAtOrAbove world java_object b → bytes_eq b java_object ≡ true
  object_by b (inl same) = text_same b java_object same
  object_by b (inr up) = let first = first_step world java_object b up in absurd (is.topmost first.0 first.1)

  pub has_orders : Orders world
  has_orders = record {
    transitive = λ a b c h k. transitive_by a b c (sub_is_above world a b h) (sub_is_above world b c k) k;
    above_interface = λ a b h k. interface_by a b h (sub_is_above world a b k);
    above_object = λ b k. object_by b (sub_is_above world java_object b k);
  }
