use Rattle.std.proofs.Common.{arith, sym, ap, ◌∙◌, ◌≡◌, Some, None, List}
use Rattle.source_checks.specs.declared.symbol_table.Symbol.{Symbol}
use Rattle.source_checks.specs.Symbols.{find}
use Rattle.source_checks.specs.Known.{position_of}
use Rattle.source_checks.proofs.Knowing.{found_at, not_found}
use Rattle.source_checks.proofs.symbol_table.SymbolTable.find.Goals as goal

pub index-requires : goal.index-requires
index-requires c =
    let at : position_of c.self.inside.items.items c.args.text.now ≡ Some c.in-Some.place = sym (c.self.invariant.each c.args.text.now) ∙ sym c.in-Some.ensures in
    omega (arith, (found_at c.self.inside.items.items c.args.text.now c.in-Some.place at).within, c.self.inside.items.ok.0)

pub returns-in-Some : goal.returns-in-Some
returns-in-Some c =
    let at : position_of c.self.inside.items.items c.args.text.now ≡ Some c.in-Some.place = sym (c.self.invariant.each c.args.text.now) ∙ sym c.in-Some.ensures in
    let there = (found_at c.self.inside.items.items c.args.text.now c.in-Some.place at).there c.index.result.now in
    ap Some c.index.ensures ∙ sym there ∙ ap (λ (known : List Symbol). find known c.args.text.now) c.self.view_is

pub returns-in-None : goal.returns-in-None
returns-in-None c =
    let at : position_of c.self.inside.items.items c.args.text.now ≡ None = sym (c.self.invariant.each c.args.text.now) ∙ sym c.in-None.ensures in
    sym (not_found c.self.inside.items.items c.args.text.now at) ∙ ap (λ (known : List Symbol). find known c.args.text.now) c.self.view_is
