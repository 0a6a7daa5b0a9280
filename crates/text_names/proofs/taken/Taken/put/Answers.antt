use Rattle.std.proofs.Common.{ap, ◌∙◌, refl, rules, ◌≡◌}
use Rattle.std.specs.List.{list_any}
use Rattle.std.specs.BTreeMap.{is_at}
use Rattle.std.specs.Ordering.{nat_cmp}
use Rattle.std.specs.Cmp.Lexicographic.{slice_cmp}
use Rattle.text_names.proofs.Known.{known_after}
use Rattle.text_names.proofs.taken.Taken.put.Goals as goal

pub returns : goal.returns
returns c = λ t.
    let e : c.in_ok-key.key.items ≡ c.args.text.now = search rules in
    ap (list_any (is_at (λ v. slice_cmp nat_cmp t v.items))) c.in_ok-insert.ensures.keys ∙ known_after (λ v. v.items) _ (λ a b. refl) t c.args.self.now.texts.keys c.in_ok-key.key c.args.text.now e
