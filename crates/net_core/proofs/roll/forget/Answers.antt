use Rattle.std.proofs.Common.{◌≡◌, ◌∙◌, ap, List, ℕ, Bool, true, false, None, cond, bytes_eq, refl, sym}
use Rattle.std.specs.Map.{lookup}
use Rattle.net_core.specs.Places.{place_at}
use Rattle.net_core.proofs.Lookups.{at_text, same_of, lookup-remove_entry}
use Rattle.net_core.proofs.roll.forget.Goals as goal

pub returns : goal.returns
returns c = λ t. by t (bytes_eq c.args.text.now t) refl where
  by : (t : List ℕ) (b : Bool) → bytes_eq c.args.text.now t ≡ b → place_at c.remove.new.self t ≡ cond b None (place_at c.args.places.now t)
  by t true e = ap (place_at c.remove.new.self) (sym (same_of c.args.text.now t e)) ∙ c.remove.ensures.updates.1
  by t false e = ap (lookup (at_text t)) c.remove.ensures.entries ∙ lookup-remove_entry c.args.places.now.entries c.args.text.now t e
