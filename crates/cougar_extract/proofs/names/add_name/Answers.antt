use Rattle.std.proofs.Common.{◌≡◌, ◌∙◌, ◌++◌, ◌∷◌, [], ℕ, List, ap, sym, subst}
use Rattle.std.specs.Prelude.{is_some}
use Rattle.std.specs.FinMap.{get, insert}
use Rattle.vlsi_base.specs.NamePlaces.{NamePlaces, name_of}
use Rattle.vlsi_base.specs.declared.name.Name.{Name}
use Rattle.sym_shapes.specs.Shape.{connector_name as name_of_line}
use Rattle.cougar_extract.specs.Stages.{Knows}
use Rattle.cougar_extract.proofs.Distinct.{knows_more}
use Rattle.cougar_extract.proofs.BuildNames.{puts_none, puts_known, puts_fresh}
use Rattle.cougar_extract.proofs.names.add_name.Goals as goal

pub returns-in_default-clause-puts : goal.returns-in_default-clause-puts
returns-in_default-clause-puts c = puts_none c.args.names.now.items (name_of_line c.args.item.now) c.in_default.ensures

pub returns-then-is_some-clause-puts : goal.returns-then-is_some-clause-puts
returns-then-is_some-clause-puts c =
    let name = c.in-Some.name.now in
    let index = c.args.index.now in
    let found : c.find.result ≡ get index name = c.find.ensures ∙ ap (λ (text : List ℕ). get index (name_of text name.bit)) c.as_bytes.ensures in
    puts_known index c.args.names.now.items (name_of_line c.args.item.now) name c.requires.known (sym (ap is_some found) ∙ sym c.is_some.ensures ∙ c.if-is_some.true)
    c.in-Some.ensures

pub returns-clause-puts : goal.returns-clause-puts
returns-clause-puts c =
    let name = c.in-Some.name.now in
    let index = c.args.index.now in
    let found : c.find.result ≡ get index name = c.find.ensures ∙ ap (λ (text : List ℕ). get index (name_of text name.bit)) c.as_bytes.ensures in
    puts_fresh index c.args.names.now.items (name_of_line c.args.item.now) c.push.new.self.items name c.requires.known
    (sym (ap is_some found) ∙ sym c.is_some.ensures ∙ c.if-is_some.false) c.in-Some.ensures
    (c.in_ok-push.ensures.items ∙ ap (λ (n : Name). c.args.names.now.items ++ n ∷ []) c.in_ok-copy.ensures)

pub returns-clause-known : goal.returns-clause-known
returns-clause-known c =
    let name = c.in-Some.name.now in
    let old = c.args.names.now.items in
    let index = c.args.index.now in
    let pushed : c.push.new.self.items ≡ old ++ name ∷ [] = c.in_ok-push.ensures.items ∙ ap (λ (n : Name). old ++ n ∷ []) c.in_ok-copy.ensures in
    let put : c.insert.new.self ≡ insert index name c.len.result = c.in_ok-insert.ensures.ok ∙ ap (λ (text : List ℕ). insert index (name_of text name.bit) c.len.result) c.as_bytes-2.ensures in
    subst (λ (ns : List Name). Knows c.insert.new.self ns) (sym pushed)
    (subst (λ (places : NamePlaces). Knows places (old ++ name ∷ [])) (sym put) (knows_more index old name c.len.result c.requires.known))
