use Rattle.use_faults.proofs.members.find_method.Given as goal

-- the ledger is that of the blank
abbrev pub ghosts-counted_method : goal.ghosts-counted_method
ghosts-counted_method a = record { name = a.blank.name; parts = a.blank.parts }
