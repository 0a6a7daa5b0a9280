use Rattle.std.proofs.Common.{◌≡◌, ◌∙◌, Option, Some, IfSome, sym, subst}
use Rattle.bdd_core.specs.declared.operators.Decided.{Decided}
use Rattle.bdd_core.specs.declared.operators.Decided.TheVariants.{Constant, First, Second, Third}
use Rattle.bdd_core.specs.Decided.{IsDecided}
use Rattle.bdd_core.proofs.Deciding.{constant_is, first_is, second_is, third_is}
use Rattle.bdd_core.proofs.operators.shortcut.Goals as goal

pub returns-in-Constant : goal.returns-in-Constant
returns-in-Constant c =
    let is : IsDecided c.args.operator c.known-x.result c.known-y.result c.known-z.result (Constant c.in-Constant.bit) =
    subst (λ (d : Decided). IsDecided c.args.operator c.known-x.result c.known-y.result c.known-z.result d) c.in-Constant.is c.in_ok-bit.ensures in
    constant_is c.args.table.now.vars c.args.from c.args.table.now.lists c.args.operator c.args.key c.known-x.result c.known-y.result c.known-z.result c.requires
    c.known-x.ensures.balanced (record { x = c.known-x.ensures.bit; y = c.known-y.ensures.bit; z = c.known-z.ensures.bit }) c.in-Constant.bit c.constant.result is
    c.constant.ensures.within c.constant.ensures.place

pub returns-in-First : goal.returns-in-First
returns-in-First c =
    let is : IsDecided c.args.operator c.known-x.result c.known-y.result c.known-z.result First =
    subst (λ (d : Decided). IsDecided c.args.operator c.known-x.result c.known-y.result c.known-z.result d) c.in-First.is c.in_ok-bit.ensures in
    first_is c.args.table.now.vars c.args.from c.args.table.now.lists c.args.operator c.args.key c.known-x.result c.known-y.result c.known-z.result c.requires
    c.known-x.ensures.balanced (record { x = c.known-x.ensures.bit; y = c.known-y.ensures.bit; z = c.known-z.ensures.bit }) is

pub returns-in-Second : goal.returns-in-Second
returns-in-Second c =
    let is : IsDecided c.args.operator c.known-x.result c.known-y.result c.known-z.result Second =
    subst (λ (d : Decided). IsDecided c.args.operator c.known-x.result c.known-y.result c.known-z.result d) c.in-Second.is c.in_ok-bit.ensures in
    second_is c.args.table.now.vars c.args.from c.args.table.now.lists c.args.operator c.args.key c.known-x.result c.known-y.result c.known-z.result c.requires
    c.known-x.ensures.balanced (record { x = c.known-x.ensures.bit; y = c.known-y.ensures.bit; z = c.known-z.ensures.bit }) is

pub returns-in-Third : goal.returns-in-Third
returns-in-Third c =
    let is : IsDecided c.args.operator c.known-x.result c.known-y.result c.known-z.result Third =
    subst (λ (d : Decided). IsDecided c.args.operator c.known-x.result c.known-y.result c.known-z.result d) c.in-Third.is c.in_ok-bit.ensures in
    third_is c.args.table.now.vars c.args.from c.args.table.now.lists c.args.operator c.args.key c.known-x.result c.known-y.result c.known-z.result c.requires
    c.known-x.ensures.balanced (record { x = c.known-x.ensures.bit; y = c.known-y.ensures.bit; z = c.known-z.ensures.bit }) is
