-- A call and what comes of its work, as the definitions see them.
use Rattle.std.specs.Prelude.{◌≡◌, ℕ, List, Some, ◌⊎◌}
use Rattle.std.specs.Borrow.{Bor}
use Rattle.jv_types.specs.Entry.{entries_of}
use Rattle.jv_types.specs.Status.{status_of}
use Rattle.jv_model.specs.Status.{no_memory, ended}
use Rattle.jv_model.specs.End.{all_ended}
use Rattle.load_model.specs.Reads.{Read}
use Rattle.run_model.specs.Call as model
use Rattle.run_model.specs.Delivery.{Sunk}
use Rattle.run_model.specs.Headline.{Done, IsSilent}
use Rattle.run_model.specs.Work.{Work}
use Rattle.run_model.specs.Works as works
use Rattle.jvolve_top.specs.declared.call.Reply.{Reply}
use Rattle.jvolve_top.specs.declared.call.Product.{Product}
use Rattle.jvolve_top.specs.Delivers.{texts_view}
use Rattle.jvolve_top.specs.Outside.{sinks}
use Rattle.jvolve_top.specs.Words.{words_view}

-- the call of these words that came to that reply
abbrev pub call : List (Bor (List ℕ)) → Reply → Read → Sunk → Sunk → Sunk → model.Call
call words reply files out report trace = record {
  words = words_view words;
  files = files;
  status = status_of reply.status;
  journal = entries_of reply.journal.items;
  shares = reply.shares.items;
  sinks = sinks out report trace;
}

-- what work gives that is done
abbrev pub product_view : Product → works.Product
product_view product = record {
  journal = entries_of product.journal.items;
  shares = product.shares.items;
  texts = texts_view product.texts;
  status = Some (ended all_ended);
}

-- What comes of work, where memory lasts until it's done. The words that ask for it, and the files
-- that say it, may be any.
abbrev pub DoesOrStarves : Work → Reply → Sunk → Sunk → Sunk → Type 0
DoesOrStarves work reply out report trace = (words : List (Bor (List ℕ))) (files : Read)
    → Done work (call words reply files out report trace)
    ⊎ ((status_of reply.status ≡ no_memory) × IsSilent (call words reply files out report trace))
