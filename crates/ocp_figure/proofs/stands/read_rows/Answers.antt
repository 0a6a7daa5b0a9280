use Rattle.std.proofs.Common.{◌<◌, All, List, map, sym, subst}
use Rattle.std.specs.List.Sorted.{IsPermutation}
use Rattle.std.proofs.lemmas.List.Sorted.{All-permutation}
use Rattle.cell_model.specs.Layout.{instances_of}
use Rattle.ocp_figure.specs.declared.stands.Stand.{Stand}
use Rattle.ocp_figure.specs.Stands.{stands_from, AreFilled, AreReadRows}
use Rattle.row_fill.proofs.Filling.{items}
use Rattle.ocp_figure.proofs.Filled.{read, once_read}
use Rattle.ocp_figure.proofs.stands.read_rows.Goals as goal

pub fill_rows-requires : goal.fill_rows-requires
fill_rows-requires c = record {
  inside = subst (All (λ s. s.row < c.args.rows)) (sym c.deref.ensures.value)
      (All-permutation (λ s. s.row < c.args.rows) c.in_ok-stands.stands.items c.sort_stands.new.stands.items c.sort_stands.ensures.same c.in_ok-stands.ensures.inside);
}

pub returns : goal.returns
returns c =
    let stands = stands_from c.args.rows 0 (instances_of c.args.items.now) in
    let sorted = c.sort_stands.new.stands.items in
    let made = c.in_ok-made.made.items in
    let are : AreReadRows c.args.rows stands (map items made) =
    read c.args.rows stands sorted made
    (subst (λ (ss : List Stand). IsPermutation ss sorted) c.in_ok-stands.ensures.stands c.sort_stands.ensures.same)
    c.in_ok-sort_stands.ensures.rising c.in_ok-made.ensures.many
    (subst (λ (ss : List Stand). AreFilled ss made) c.deref.ensures.value c.in_ok-made.ensures.filled) in
    record {
      many = c.in_ok-made.ensures.many;
      once = once_read c.args.rows (instances_of c.args.items.now) (map items made) are
          (subst (All (λ s. s.row < c.args.rows)) c.in_ok-stands.ensures.stands c.in_ok-stands.ensures.inside);
      read = are;
    }
