-- Terminals that are joined are those that stand for one bit of a net.
use Rattle.std.proofs.Common.{◌≡◌, ◌⊎◌, inl, inr, List, [], ◌∷◌, map, refl, sym, ap, subst, ◌∙◌}
use Rattle.vlsi_base.specs.declared.name.Name.{Name}
use Rattle.vlsi_base.specs.declared.name.Terminal.{Terminal}
use Rattle.vlsi_base.specs.Member.{In, here, there, AllDifferent}
use Rattle.net_core.specs.Joins.{Joined, same, along, against}
use Rattle.net_core.proofs.Joining.{joined_then}
use Rattle.machine_core.proofs.Values.{In-map}
use Rattle.vlsi_model.proofs.Members.{In-map_back}
use Rattle.vst_io.specs.Drafts.{end_at, last_end, joins_of}
use Rattle.vst_io.proofs.Places.{stands_in, index_stands, stands_map, last_there}

abbrev pub Links : Type 0
Links = List (Terminal × Name)

-- no terminal stands for two bits
abbrev pub StandsForOne : Links → Type 0
StandsForOne links = (t : Terminal) (x y : Name) → In (t, x) links → In (t, y) links → x ≡ y

pub in_first : {X : Type 0} (x y : X) (xs : List X) → In y (x ∷ xs) → (y ≡ x) ⊎ In y xs
in_first x y xs here = inl refl
in_first x y xs (there h) = inr h

pub stands_for_one : (links : Links) → AllDifferent (map (λ l. l.0) links) → StandsForOne links
stands_for_one [] different t x y p q = elim p [ ]
stands_for_one (l ∷ links) different t x y p q = by (in_first l (t, x) links p) (in_first l (t, y) links q) (stands_for_one links different.1) where
  by : ((t, x) ≡ l) ⊎ In (t, x) links → ((t, y) ≡ l) ⊎ In (t, y) links → StandsForOne links → x ≡ y
  by (inl a) (inl b) rest = ap (λ (m : Terminal × Name). m.1) (a ∙ sym b)
  by (inl a) (inr g) rest = absurd (different.0 (subst (λ (u : Terminal). In u (map (λ (m : Terminal × Name). m.0) links)) (ap (λ (m : Terminal × Name). m.0) a) (In-map (λ (m : Terminal × Name). m.0) (t, y) links g)))
  by (inr h) (inl b) rest = absurd (different.0 (subst (λ (u : Terminal). In u (map (λ (m : Terminal × Name). m.0) links)) (ap (λ (m : Terminal × Name). m.0) b) (In-map (λ (m : Terminal × Name). m.0) (t, x) links h)))
  by (inr h) (inr g) rest = rest t x y h g

-- the last terminal of a bit that some terminal stands for
pub record LastEnd (links : Links) (x : Name) : Type 0 where
  pub end : Terminal
  pub linked : In (end, x) links
  pub is : (other : Terminal) → last_end links x other ≡ end

pub last_of : (links : Links) (t : Terminal) (x : Name) → In (t, x) links → LastEnd links x
last_of links t x h =
    let f : Terminal × Name → Name = λ l. l.1 in
    let r = last_there (map f links) x (In-map f (t, x) links h) in
    let l = stands_map f links r.0 x r.2 in
    record {
      end = l.0.0;
      linked = subst (λ (n : Name). In (l.0.0, n) links) l.2 (stands_in links r.0 l.0 l.1);
      is = λ other. ap (end_at links x other) r.1 ∙ ap (λ (m : Terminal × Name). m.0) (index_stands links r.0 l.0 (other, x) l.1);
    }

-- each pair joins two terminals that stand for one bit
pair_of : (links : Links) (a b : Terminal) → In (a, b) (joins_of links) → (x : Name) × In (a, x) links × In (b, x) links
pair_of links a b h =
    let r = In-map_back (λ (l : Terminal × Name). (last_end links l.1 l.0, l.0)) (a, b) links h in
    let linked : In (r.0.0, r.0.1) links = r.1 in
    let last = last_of links r.0.0 r.0.1 linked in
    let left : a ≡ last.end = sym (ap (λ (p : Terminal × Terminal). p.0) r.2) ∙ last.is r.0.0 in
    let right : r.0.0 ≡ b = ap (λ (p : Terminal × Terminal). p.1) r.2 in
    (r.0.1, subst (λ (t : Terminal). In (t, r.0.1) links) (sym left) last.linked, subst (λ (t : Terminal). In (t, r.0.1) links) right linked)

pub joined_same : (links : Links) → StandsForOne links → {a b : Terminal} → Joined (joins_of links) a b → (x y : Name) → In (a, x) links → In (b, y) links → x ≡ y
joined_same links one {a} {b} same x y p q = one a x y p q
joined_same links one {a} {b} (along {b = c} pair rest) x y p q =
    let r = pair_of links a c pair in
    one a x r.0 p r.1 ∙ joined_same links one rest r.0 y r.2 q
joined_same links one {a} {b} (against {a = c} pair rest) x y p q =
    let r = pair_of links c a pair in
    one a x r.0 p r.2 ∙ joined_same links one rest r.0 y r.1 q

pub same_joined : (links : Links) (a b : Terminal) (x : Name) → In (a, x) links → In (b, x) links → Joined (joins_of links) a b
same_joined links a b x p q =
    let last = last_of links a x p in
    let f : Terminal × Name → Terminal × Terminal = λ l. (last_end links l.1 l.0, l.0) in
    let left : In (last.end, a) (joins_of links) = subst (λ (t : Terminal). In (t, a) (joins_of links)) (last.is a) (In-map f (a, x) links p) in
    let right : In (last.end, b) (joins_of links) = subst (λ (t : Terminal). In (t, b) (joins_of links)) (last.is b) (In-map f (b, x) links q) in
    joined_then (against left same) (along right same)
