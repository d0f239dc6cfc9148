use Rattle.use_faults.proofs.members.find_field.Given as goal

-- the ledger is that of the blank
abbrev pub ghosts-counted_field : goal.ghosts-counted_field
ghosts-counted_field a = record { name = a.blank.name; parts = a.blank.parts }
