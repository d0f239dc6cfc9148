mod StraightLineLemmas
mod RunLemmas
mod MainLemmas
mod Operands
mod Typed
