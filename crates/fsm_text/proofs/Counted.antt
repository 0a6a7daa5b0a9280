-- What is counted in a text has few bits: the outputs of its entity, whose ports are within the limit, and the next state.
use Rattle.std.proofs.Common.{◌≡◌, ℕ, ◌≤◌, ◌<◌, ◌^◌, cond, Bool, true, false, List, [], ◌∷◌, length, Option, None, Some, Ok, refl, arith}
use Rattle.std.specs.Prelude.{filter, codes, is_none}
use Rattle.vlsi_base.specs.declared.entity.Entity.{Entity}
use Rattle.vlsi_base.specs.declared.entity.PortGroup.{PortGroup}
use Rattle.vhdl_token.specs.declared.token.Tokens.{Tokens}
use Rattle.grammar_theory.specs.declared.limits.TheConstants.{BITS, DEPTH}
use Rattle.grammar_theory.specs.Outcome.{At, start}
use Rattle.vhdl_front.specs.EntityReading.{entity_at}
use Rattle.source_checks.specs.declared.symbol_table.Role.TheVariants as role
use Rattle.source_checks.specs.declared.symbol_table.Symbol.{Symbol}
use Rattle.source_checks.specs.Symbols.{port_symbols, symbols_named, role_of_mode, find, all_names}
use Rattle.vbe_text.proofs.Counted.{all_long, ports_few}
use Rattle.fsm_text.specs.Chains.{named_by, is_out, next_symbols}
use Rattle.fsm_text.specs.Texts.{counted_in}
use Rattle.fsm_text.proofs.Chains.{entity_read}

-- outputs among ports are no more than those
outputs_fewer : (gs : List PortGroup) → length (all_names (port_symbols (filter is_out gs))) ≤ length (all_names (port_symbols gs))
outputs_fewer [] = omega arith
outputs_fewer (g ∷ gs) = by (is_out g) (outputs_fewer gs) where
  mine : List Symbol
  mine = symbols_named (role_of_mode g.mode) g.kind.range g.line g.names

  by : (b : Bool) → length (all_names (port_symbols (filter is_out gs))) ≤ length (all_names (port_symbols gs))
      → length (all_names (port_symbols (cond b (g ∷ filter is_out gs) (filter is_out gs)))) ≤ length (all_names (port_symbols (g ∷ gs)))
  by true rest =
      let some = all_long mine (port_symbols (filter is_out gs)) in
      let all = all_long mine (port_symbols gs) in
      omega (arith, some, all, rest)
  by false rest = let all = all_long mine (port_symbols gs) in omega (arith, all, rest)

one_bit : (known : List Symbol) (next : Option (List ℕ)) → length (all_names (next_symbols known next)) ≤ 1
one_bit known None = omega arith
one_bit known (Some text) = by (is_none (find known text)) where
  state : Symbol
  state = record { text = text; role = role.Inner; range = None; line = 0 }

  by : (b : Bool) → length (all_names (cond b (state ∷ []) [])) ≤ 1
  by true = omega arith
  by false = omega arith

pub counted_few : (tokens : Tokens) (e : Entity) (behind : At) → entity_at DEPTH (start tokens.items) ≡ Ok (e, behind) → length (all_names (counted_in tokens e)) < 2 ^ 32
counted_few tokens e behind read =
    let a = entity_read tokens e behind read in
    let outputs = port_symbols (filter is_out e.ports) in
    let next = named_by (codes "next_state") tokens.pragmas in
    let both = all_long outputs (next_symbols outputs next) in
    let fewer = outputs_fewer e.ports in
    let one = one_bit outputs next in
    let ports = ports_few a.front e behind.state a.sentence a.clean in
    let most : BITS ≡ 1048576 = refl in
    omega (arith, both, fewer, one, ports, most)
