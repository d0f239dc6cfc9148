-- A constant pool that is filled, as the definitions see it.
use Rattle.std.specs.Prelude.{◌≡◌, ℕ, List, true}
use Rattle.std.specs.List.{list_all}
use Rattle.assembler_model.specs.PoolEntries as model
use Rattle.asm_parts.specs.Entries.{entries_of, has_texts, starts, behind}
use Rattle.asm_parts.specs.declared.pool_entries.Pool.{Pool}

abbrev pub entries_in : Pool → List model.Entry
entries_in pool = entries_of pool.entries.keys

-- each entry has its index, and all names are UTF-8
pub record IsPool (pool : Pool) : Type 0 where
  pub texts : list_all has_texts pool.entries.keys ≡ true
  pub indices : pool.indices.items ≡ starts 1 (entries_in pool)
  pub next : pool.next ≡ behind 1 (entries_in pool)
