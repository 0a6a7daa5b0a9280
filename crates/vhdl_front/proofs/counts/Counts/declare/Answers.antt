use Rattle.std.proofs.Common.{◌≡◌, ◌∙◌, Bool, true, false, not, ap, map, refl, rules}
use Rattle.std.specs.Bool.{OnTrue}
use Rattle.std.specs.BTreeSet.{insert_key}
use Rattle.std.specs.Cmp.Lexicographic.{slice_cmp}
use Rattle.std.specs.Ordering.{nat_cmp}
use Rattle.vhdl_front.specs.Cursor.{names_of}
use Rattle.vhdl_front.proofs.Names.{declared_in, inserted_in}
use Rattle.vhdl_front.proofs.counts.Counts.declare.Goals as goal

on_true : (b : Bool) (P : Type 0) → P → OnTrue b P
on_true true P p = p
on_true false P p = tt

pub returns-clause-fresh : goal.returns-clause-fresh
returns-clause-fresh c =
    let e : c.in_ok-key.key.items ≡ c.args.name.now = search rules in
    rw (← e) (c.in_ok-added.ensures.added ∙ ap not (declared_in (λ v. v.items) _ (λ a b. refl) c.in_ok-key.key c.args.self.now.names.keys))

pub returns-clause-added : goal.returns-clause-added
returns-clause-added c =
    let e : c.in_ok-key.key.items ≡ c.args.name.now = search rules in
    let added = ap (λ ks. map (λ v. v.items) ks) c.in_ok-added.ensures.keys ∙ inserted_in (λ v. v.items) _ (λ a b. refl) c.args.self.now.names.keys c.in_ok-key.key in
    on_true c.in_ok-added.added (names_of (record { names = c.insert.new.self; bits = c.args.self.now.bits; operators = c.args.self.now.operators; alternatives = c.args.self.now.alternatives }) ≡ insert_key (slice_cmp nat_cmp) (names_of c.args.self.now) c.args.name.now) (rw (← e) added)
