-- What shows a netlist gives it, where no signal pin is tied to a supply.
use Rattle.std.proofs.Common.{◌≡◌, ℕ, ◌⊎◌, inl, inr, ⊎_elim, List, refl, sym, ap, ◌∙◌, Bool, true, false, nat_eq}
use Rattle.std.specs.Prelude.{◌↔◌}
use Rattle.std.proofs.lemmas.Bool.{eqb-true, eq-eqb}
use Rattle.vlsi_base.specs.declared.name.Terminal.{Terminal}
use Rattle.vlsi_base.specs.Names.{vdd, vss}
use Rattle.sym_geom.specs.declared.item.Item.{Item}
use Rattle.sym_shapes.specs.Joined.{AreJoined}
use Rattle.cell_model.specs.Layout.{shapes}
use Rattle.cell_model.specs.Library.{Library}
use Rattle.net_meaning.specs.Netlist.{AbstractNetlist, Extracts, port, IsTerminal}
use Rattle.net_drawing.specs.Shown.{ShowsNetlist, HasNoTies}
use Rattle.net_drawing.specs.Law.{UntiedIsExtracted}

same_or_not : (a b : ℕ) → (a ≡ b) ⊎ (a ≡ b → ⊥)
same_or_not a b = by (nat_eq a b) refl
  where
    by : (r : Bool) → nat_eq a b ≡ r → (a ≡ b) ⊎ (a ≡ b → ⊥)
    by true e = inl (eqb-true a b e)
    by false e = inr (λ same. let f : true ≡ false = sym (eq-eqb a b same) ∙ e in cc f)

module _ (items : List Item) (l : Library) (n : AbstractNetlist) (shown : ShowsNetlist items l n) (plain : HasNoTies n l) where
  classes : (a b : Terminal) → IsTerminal n l a → IsTerminal n l b → (n.class a ≡ n.class b) ↔ ((a ≡ b) ⊎ AreJoined (shapes items l) a b)
  classes a b ha hb = by (same_or_not (n.class a) (n.class (port vdd))) (same_or_not (n.class a) (n.class (port vss)))
    where
      by : (n.class a ≡ n.class (port vdd)) ⊎ (n.class a ≡ n.class (port vdd) → ⊥) → (n.class a ≡ n.class (port vss)) ⊎ (n.class a ≡ n.class (port vss) → ⊥)
          → (n.class a ≡ n.class b) ↔ ((a ≡ b) ⊎ AreJoined (shapes items l) a b)
      by (inl e) f =
          let p = (plain.high a ha).0 e in let s = shown.supplies a b ha hb (inl p) in (
            λ same. inr (s.0 ((plain.high b hb).0 (sym same ∙ e) ∙ sym p)),
            λ c. ⊎_elim (λ same. ap n.class same) (λ j. e ∙ sym ((plain.high b hb).1 (s.1 j ∙ p))) c,
          )
      by (inr e) (inl f) =
          let p = (plain.low a ha).0 f in let s = shown.supplies a b ha hb (inr p) in (
            λ same. inr (s.0 ((plain.low b hb).0 (sym same ∙ f) ∙ sym p)),
            λ c. ⊎_elim (λ same. ap n.class same) (λ j. f ∙ sym ((plain.low b hb).1 (s.1 j ∙ p))) c,
          )
      by (inr e) (inr f) = shown.nets a b (record { terminal = ha; free = λ s. ⊎_elim e f s }) hb

  pub extracted : Extracts items l n
  extracted = record { ports = shown.ports; instances = shown.instances; classes = classes; numbered = plain.numbered; used = plain.used }

pub untied_is_extracted : UntiedIsExtracted
untied_is_extracted items l n shown plain = extracted items l n shown plain
