use Rattle.std.proofs.Common.{List, map, sym, ◌∙◌, subst}
use Rattle.machine_core.specs.Order.{AllDifferent}
use Rattle.source_checks.specs.declared.symbol_table.Symbol.{Symbol}
use Rattle.vbe_free.proofs.Agree.{same_symbols}
use Rattle.vbe_free.proofs.Ones.{lows}
use Rattle.vbe_free.proofs.second.with_ones.Goals as goal

pub driven_bits-requires : goal.driven_bits-requires
driven_bits-requires c =
    subst (λ (ks : List Symbol). AllDifferent (map (λ (s : Symbol). s.text) ks))
    (sym (c.in_ok-numbers.ensures ∙ c.in_ok-table.ensures ∙ same_symbols c.args.low.now c.args.design.now c.requires.first))
    (lows c.args.low.now c.args.design.now c.requires.first).different
