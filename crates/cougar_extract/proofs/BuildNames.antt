-- The name of a line, put behind those that are known.
use Rattle.std.proofs.Common.{◌≡◌, true, false, List, [], ◌∷◌, ◌++◌, sym, subst, ◌∙◌}
use Rattle.std.specs.Prelude.{is_some}
use Rattle.std.specs.FinMap.{get}
use Rattle.vlsi_base.specs.declared.name.Name.{Name}
use Rattle.vlsi_base.specs.NamePlaces.{NamePlaces}
use Rattle.vlsi_base.specs.Member.{In}
use Rattle.cougar_extract.specs.Stages.{Knows, PutsNew, no_name, known_name, fresh_name}

-- a line that has no name
pub puts_none : (old own : List Name) → [] ≡ own → PutsNew old own old
puts_none old own e = subst (λ (ns : List Name). PutsNew old ns old) e no_name

-- one whose name is known
pub puts_known : (index : NamePlaces) (old own : List Name) (name : Name) → Knows index old → is_some (get index name) ≡ true → name ∷ [] ≡ own → PutsNew old own old
puts_known index old own name knows is e = subst (λ (ns : List Name). PutsNew old ns old) e (known_name ((knows name).0 is))

-- and one whose name is new
pub puts_fresh : (index : NamePlaces) (old own new : List Name) (name : Name) → Knows index old → is_some (get index name) ≡ false → name ∷ [] ≡ own
    → new ≡ old ++ name ∷ [] → PutsNew old own new
puts_fresh index old own new name knows isnt e made =
    let lacks = λ (h : In name old). let clash : true ≡ false = sym ((knows name).1 h) ∙ isnt in absurd cc in
    subst (λ (ns : List Name). PutsNew old ns new) e (subst (λ (ns : List Name). PutsNew old (name ∷ []) ns) (sym made) (fresh_name lacks))
