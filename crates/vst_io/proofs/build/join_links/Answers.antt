use Rattle.std.proofs.Common.{◌≡◌, ◌<◌, ◌∙◌, List, ℕ, Some, None, map, length, ap, sym, subst, rules}
use Rattle.std.specs.FinMap.{get}
use Rattle.vlsi_base.specs.NamePlaces.{name_of, last_place}
use Rattle.vlsi_base.specs.declared.name.Name.{Name}
use Rattle.vlsi_base.specs.declared.name.Terminal.{Terminal}
use Rattle.net_core.specs.Joins.{with_join, IsNoJoin}
use Rattle.net_core.specs.declared.error.BuildError.TheVariants.{Memory}
use Rattle.vst_io.proofs.Joins.{bit_of, last_link, link_found, joined_next, only_memory, none_is}
use Rattle.vst_io.proofs.build.join_links.Goals as goal
use Rattle.vst_io.proofs.build.join_links.Goals.{in-Some+in_ok-join, in_default}

pub offset_bounds-links-place : goal.offset_bounds-links-place
offset_bounds-links-place c =
    let l = c.link-item.result in
    let found : last_place (map bit_of c.args.links.now) l.1 ≡ Some c.in-Some.place = sym (c.requires.index l.1) ∙ sym (c.in-Some.ensures ∙ ap (λ (t : List ℕ). get c.args.index.now (name_of t l.1.bit)) c.as_bytes.ensures) in
    let low : c.in-Some.place < length c.args.links.now = (last_link c.args.links.now l c.in-Some.place found).within in
    search rules

pub bounds-links-place : goal.bounds-links-place
bounds-links-place c =
    let l = c.link-item.result in
    let found : last_place (map bit_of c.args.links.now) l.1 ≡ Some c.in-Some.place = sym (c.requires.index l.1) ∙ sym (c.in-Some.ensures ∙ ap (λ (t : List ℕ). get c.args.index.now (name_of t l.1.bit)) c.as_bytes.ensures) in
    (last_link c.args.links.now l c.in-Some.place found).within

pub returns-in_err-join-clause-refused : goal.returns-in_err-join-clause-refused
returns-in_err-join-clause-refused c =
    let l = c.link-item.result in
    let found : last_place (map bit_of c.args.links.now) l.1 ≡ Some c.in-Some.place = sym (c.requires.index l.1) ∙ sym (c.in-Some.ensures ∙ ap (λ (t : List ℕ). get c.args.index.now (name_of t l.1.bit)) c.as_bytes.ensures) in
    let memory : c.in_err-join.field-0.0 ≡ Memory =
    only_memory c.args.builder.now c.loop-link.builder c.args.links.now c.loop-link.link-index c.in-Some.place l c.index-links-place.result c.requires.there c.loop-link-test.true c.link-item.is found c.index-links-place.is
    c.loop-link.invariant c.in_err-join.field-0.0 (subst (λ (x : Terminal × Name). IsNoJoin c.loop-link.builder x.0 l.0 c.in_err-join.field-0.0) (sym c.index-links-place.is) c.in_err-join.ensures.refused) in
    search rules

pub loop-link-preserved : goal.loop-link-preserved
loop-link-preserved c = elim c.match-find.branch [
  | in-Some+in_ok-join w ↦
      let l = c.link-item.result in
      let found : last_place (map bit_of c.args.links.now) l.1 ≡ Some w.in-Some.place = sym (c.requires.index l.1) ∙ sym (w.in-Some.ensures ∙ ap (λ (t : List ℕ). get c.args.index.now (name_of t l.1.bit)) c.as_bytes.ensures) in
      w.builder-is
      ∙ joined_next c.args.builder.now c.loop-link.builder w.join.new.self c.args.links.now c.loop-link.link-index w.in-Some.place l w.index-links-place.result c.loop-link-test.true c.link-item.is found w.index-links-place.is
      c.loop-link.invariant (w.in_ok-join.ensures.joined ∙ ap (λ (x : Terminal × Name). with_join c.loop-link.builder x.0 l.0) (sym w.index-links-place.is))
  | in_default w ↦
      let l = c.link-item.result in
      let none : c.find.result ≡ None = none_is c.find.result w.in_default.not-Some in
      absurd (link_found c.args.links.now c.loop-link.link-index l c.loop-link-test.true c.link-item.is
      (sym (c.requires.index l.1) ∙ ap (λ (t : List ℕ). get c.args.index.now (name_of t l.1.bit)) (sym c.as_bytes.ensures) ∙ sym c.find.ensures ∙ none))
]
