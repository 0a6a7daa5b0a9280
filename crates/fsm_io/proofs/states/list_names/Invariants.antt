use Rattle.std.proofs.Common.{◌≡◌, ◌++◌, take, drop}
use Rattle.fsm_io.specs.Known.{texts}
use Rattle.fsm_io.specs.States.{bad_names}
use Rattle.fsm_io.specs.Pieces.{symbol_texts, first_use}
use Rattle.fsm_io.proofs.states.list_names.Given as goal

abbrev pub invariant-loop-name : goal.invariant-loop-name
invariant-loop-name l = record {
  listed : symbol_texts l.made ≡ symbol_texts l.initial.made ++ texts (take l.name-index l.names);
  first : first_use (bad_names (symbol_texts l.states) (symbol_texts l.made) (drop l.name-index l.names))
      ≡ first_use (bad_names (symbol_texts l.states) (symbol_texts l.initial.made) l.names);
}
