-- How threads are kept: first those that there are, and then unused ones.
use Rattle.std.specs.Prelude.{◌≡◌, ◌≤◌, ◌-◌, [], false, None, take, drop, replicate, vec_len}
use Rattle.jv_model.specs.Limits.{most_threads}
use Rattle.frame_stacks.specs.declared.thread.Thread.{Thread}
use Rattle.frame_stacks.specs.declared.stacks.Stacks.TheInside.{Inside}
use Rattle.frame_stacks.specs.Threads.{Threads}

abbrev pub unused : Thread
unused = record { frames = []; to_start = []; mark = false; ended = false; thrown = None }

abbrev pub threads_of : Inside → Threads
threads_of it = record { threads = take it.count it.threads.items; room = vec_len it.threads }

pub record AreKept (it : Inside) : Type 0 where
  pub most : it.count ≤ most_threads
  pub few : it.count ≤ vec_len it.threads
  pub others :
      drop it.count it.threads.items ≡ replicate (vec_len it.threads - it.count) unused
