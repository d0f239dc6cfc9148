-- Graphs over numbers, and the order in which a walk meets the nodes.
use Rattle.std.specs.Prelude.{◌≡◌, ℕ, ◌<◌, List, [], ◌∷◌, ◌++◌, Bool, ◌==◌, if◌then◌else◌, length, get_or, filter, flat_map, IsTrue, nat_lt}
use Rattle.std.specs.List.{list_any, list_all, IsDistinct}

-- the nodes to which a node leads, in order; one that isn't there leads to none
abbrev pub children_at : List (List ℕ) → ℕ → List ℕ
children_at graph node = get_or graph node []

abbrev pub is_in : List ℕ → ℕ → Bool
is_in nodes node = list_any (λ n. node == n) nodes

-- the second leads to the first
abbrev pub leads_to : List (List ℕ) → ℕ → ℕ → Bool
leads_to graph last node = is_in (children_at graph node) last

abbrev pub are_inside : ℕ → List ℕ → Bool
are_inside count nodes = list_all (λ n. nat_lt n count) nodes

-- each node leads to nodes that are there
abbrev pub IsGraph : List (List ℕ) → Type 0
IsGraph graph = IsTrue (list_all (are_inside (length graph)) graph)

-- A node leads to another by some steps, or none.
pub data Reaches (graph : List (List ℕ)) : ℕ → ℕ → Type 0 where
  here : (node : ℕ) → Reaches graph node node
  further : (node next last : ℕ) → IsTrue (is_in (children_at graph node) next) → Reaches graph next last → Reaches graph node last

-- numbers, each where it first stands, but none of those that were seen
unfoldable pub once : List ℕ → List ℕ → List ℕ
once seen [] = []
once seen (n ∷ ns) = if is_in seen n then once seen ns else n ∷ once (seen ++ n ∷ []) ns

-- Each node's unfolding is itself, where it's listed, and then those of its children; a rank shows that they end.
pub record IsUnfolding (graph : List (List ℕ)) (listed : ℕ → Bool) (unfolding_of : ℕ → List ℕ) (rank : ℕ → ℕ) : Type 0 where
  pub unfolds : (node : ℕ) → node < length graph
      → unfolding_of node ≡ filter listed (node ∷ []) ++ flat_map unfolding_of (children_at graph node)
  pub falls : (node child : ℕ) → node < length graph → IsTrue (is_in (children_at graph node) child) → rank child < rank node

-- The nodes that a node reaches, each once, in the order in which an unfolding lists them.
pub record IsPreorder (graph : List (List ℕ)) (start : ℕ) (nodes : List ℕ) : Type 0 where
  pub distinct : IsDistinct ◌==◌ nodes
  pub inside : IsTrue (are_inside (length graph) nodes)
  pub reached : (node : ℕ) → IsTrue (is_in nodes node) → Reaches graph start node
  pub begins : IsTrue (is_in nodes start)
  pub closed : (node child : ℕ) → IsTrue (is_in nodes node) → IsTrue (is_in (children_at graph node) child)
      → IsTrue (is_in nodes child)
  pub ordered : (listed : ℕ → Bool) (unfolding_of : ℕ → List ℕ) (rank : ℕ → ℕ) → IsUnfolding graph listed unfolding_of rank
      → filter listed nodes ≡ once [] (unfolding_of start)
