-- What a comparison comes to, from what each of the two netlists sees.
use Rattle.std.proofs.Common.{◌≡◌, ◌⊎◌, inl, inr, ◌↔◌, ℕ, Bool, true, false, cond, List, Option, Some, None, refl, sym, ap, subst, ◌∙◌}
use Rattle.std.specs.Ordering.{ordering_reverse}
use Rattle.std.specs.declared.cmp.Ordering.{Ordering}
use Rattle.std.specs.declared.cmp.Ordering.TheVariants.{Less, Equal, Greater}
use Rattle.vlsi_base.specs.declared.name.Name.{Name}
use Rattle.vlsi_base.specs.declared.name.Port.{Port}
use Rattle.vlsi_base.specs.declared.name.Terminal.{Terminal}
use Rattle.vlsi_base.specs.Name.{name_cmp}
use Rattle.vlsi_base.specs.Names.{comes_before}
use Rattle.vlsi_base.proofs.NameOrder.{name_total}
use Rattle.net_core.specs.Places.{IsThere}
use Rattle.net_core.specs.Netlist.{Netlist, IsNetlist, port, pin_of, terminals}
use Rattle.net_core.proofs.Frames.{mapped, unmapped}
use Rattle.net_core.proofs.Searching.{name_equal}
use Rattle.net_right.specs.Same.{HasInstance, AreJoined}
use Rattle.net_right.proofs.Places.{Which, which_port, which_pin, which, port_there, has_class}
use Rattle.lvx_compare.specs.declared.comparing.Verdict.{Verdict}
use Rattle.lvx_compare.specs.declared.comparing.Verdict.TheVariants as verdict
use Rattle.lvx_compare.specs.Compared as told
use Rattle.lvx_compare.specs.Compared.{HasPort, AreSame, HasOtherMembers, DiffersAtPort, DiffersAtInstance, IsInstanceAtFault, IsLeast, IsDifference}
use Rattle.lvx_compare.specs.Stages as stage
use Rattle.lvx_compare.specs.Stages.{KeepsMembers, AreMarks, IsOddPort, IsFirstPort, IsOddInstance, KeepsInstance, IsOddName, IsFirstInstance, lesser}
use Rattle.lvx_compare.proofs.Members.{with_itself, is_there, kept_or_other, others_turned, not_less_than, less_is, lesser_still, first_still}
use Rattle.lvx_compare.proofs.Instances.{odd_there, kept_or_odd}

-- ---- ports

port_joined : (n : Netlist) → IsNetlist n → (name : Name) → HasPort n name → AreJoined n (port name) (port name)
port_joined n is name h =
    let u = unmapped (λ (p : Port). p.name) n.ports h.0 name h.1 in
    let t : IsThere (terminals n) (port name) = subst (λ (x : Name). IsThere (terminals n) (port x)) u.2 (port_there n u.0 (h.0, u.1)) in
    let c = has_class n is (port name) t in with_itself n (port name) c.0 c.1

port_back : (n : Netlist) (name : Name) → IsThere (terminals n) (port name) → HasPort n name
port_back n name t = by (which n (port name) t) where
  by : Which n (port name) → HasPort n name
  by (which_port p h e) =
      let same : p.name ≡ name = ap (λ (x : Terminal). x.pin) e in
      subst (λ (x : Name). HasPort n x) same (h.0, mapped (λ (x : Port). x.name) n.ports h.0 p h.1)
  by (which_pin i q g r e) = let no : Some i.name ≡ None = ap (λ (x : Terminal). x.instance) e in absurd cc

joined_there : (n : Netlist) (s t : Terminal) → AreJoined n s t → IsThere (terminals n) s
joined_there n s t j = is_there n s j.class j.first

lacks_port : (a b : Netlist) → IsNetlist a → (name : Name) → HasPort a name → (HasPort b name → ⊥) → IsOddPort a b name
lacks_port a b is name h lacks = record {
  here = h;
  parted = (port name, inl (port_joined a is name h, λ j. lacks (port_back b name (joined_there b (port name) (port name) j))));
}

port_differs : (a b : Netlist) → IsNetlist a → IsNetlist b → (name : Name) → DiffersAtPort a b name → IsOddPort a b name ⊎ IsOddPort b a name
port_differs a b is_a is_b name (told.lacking (inl p)) = inl (lacks_port a b is_a name p.0 p.1)
port_differs a b is_a is_b name (told.lacking (inr q)) = inr (lacks_port b a is_b name q.0 q.1)
port_differs a b is_a is_b name (told.members (s, inl p)) = inl (record { here = port_back a name (joined_there a (port name) s p.0); parted = (s, inl p) })
port_differs a b is_a is_b name (told.members (s, inr q)) = inr (record { here = port_back b name (joined_there b (port name) s q.0); parted = (s, inl q) })

odd_port_here : (a b : Netlist) (name : Name) → IsOddPort a b name → DiffersAtPort a b name
odd_port_here a b name h = told.members h.parted

odd_port_there : (a b : Netlist) (name : Name) → IsOddPort b a name → DiffersAtPort a b name
odd_port_there a b name h = told.members (others_turned b a (port name) h.parted)

-- ---- instances

name_differs : (a b : Netlist) (name : Name) → IsInstanceAtFault a b name → IsOddName a b name ⊎ IsOddName b a name
name_differs a b name h = by h.differs where
  by : DiffersAtInstance a b name.text → IsOddName a b name ⊎ IsOddName b a name
  by (told.modelled model (inl p)) = inl (record { scalar = h.scalar; odd = stage.other_model model p.0 p.1 })
  by (told.modelled model (inr q)) = inr (record { scalar = h.scalar; odd = stage.other_model model q.0 q.1 })
  by (told.joined pin (s, inl p)) = inl (record { scalar = h.scalar; odd = stage.other_members pin (joined_there a (pin_of name.text pin) s p.0) (s, inl p) })
  by (told.joined pin (s, inr q)) = inr (record { scalar = h.scalar; odd = stage.other_members pin (joined_there b (pin_of name.text pin) s q.0) (s, inl q) })

odd_name_here : (a b : Netlist) (name : Name) → IsOddName a b name → IsInstanceAtFault a b name
odd_name_here a b name h = record { scalar = h.scalar; differs = by h.odd } where
  by : IsOddInstance a b name.text → DiffersAtInstance a b name.text
  by (stage.other_model model p lacks) = told.modelled model (inl (p, lacks))
  by (stage.other_members pin t g) = told.joined pin g

odd_name_there : (a b : Netlist) (name : Name) → IsOddName b a name → IsInstanceAtFault a b name
odd_name_there a b name h = record { scalar = h.scalar; differs = by h.odd } where
  by : IsOddInstance b a name.text → DiffersAtInstance a b name.text
  by (stage.other_model model p lacks) = told.modelled model (inr (p, lacks))
  by (stage.other_members pin t g) = told.joined pin (others_turned b a (pin_of name.text pin) g)

-- ---- the lesser of two least names

-- the least name for which P holds; none where it holds for none
abbrev IsFirst : (Name → Type 0) → Option Name → Type 0
IsFirst P None = (name : Name) → P name → ⊥
IsFirst P (Some name) = IsLeast P name

module _ (P Q R : Name → Type 0) (to_left : (name : Name) → P name → R name) (to_right : (name : Name) → Q name → R name) (either : (name : Name) → R name → P name ⊎ Q name) where
  first_of_both : (x y : Option Name) → IsFirst P x → IsFirst Q y → IsFirst R (lesser x y)
  first_of_both None None empty none = λ name r. elim (either name r) [ inl p ↦ empty name p | inr q ↦ none name q ]
  first_of_both None (Some b) none f = record { holds = to_right b f.holds; least = λ o r. elim (either o r) [ inl p ↦ absurd (none o p) | inr q ↦ f.least o q ] }
  first_of_both (Some a) None f none = record { holds = to_left a f.holds; least = λ o r. elim (either o r) [ inl p ↦ f.least o p | inr q ↦ absurd (none o q) ] }
  first_of_both (Some a) (Some b) f g = by (comes_before b a) refl where
    by : (t : Bool) → comes_before b a ≡ t → IsFirst R (cond t (Some b) (Some a))
    by true e = record {
      holds = to_right b g.holds;
      least = λ o r. elim (either o r) [ inl p ↦ lesser_still a b o (less_is b a e) (f.least o p) | inr q ↦ g.least o q ];
    }
    by false e = record {
      holds = to_left a f.holds;
      least = λ o r. elim (either o r) [ inl p ↦ f.least o p | inr q ↦ first_still a b o e (g.least o q) ];
    }

-- ---- both netlists together

first_port : (a b : Netlist) → (x : Option Name) → IsFirstPort a b x → IsFirst (IsOddPort a b) x
first_port a b None keeps = λ name h. kept_or_other a b (port name) (keeps name h.here) h.parted
first_port a b (Some name) f = f

pub ports_told : (a b : Netlist) → IsNetlist a → IsNetlist b → (x y : Option Name) → IsFirstPort a b x → IsFirstPort b a y → IsFirst (DiffersAtPort a b) (lesser x y)
ports_told a b is_a is_b x y f g =
    first_of_both (IsOddPort a b) (IsOddPort b a) (DiffersAtPort a b) (odd_port_here a b) (odd_port_there a b) (port_differs a b is_a is_b) x y (first_port a b x f) (first_port b a y g)

first_instance : (a b : Netlist) → IsNetlist a → (x : Option Name) → IsFirstInstance a b x → IsFirst (IsOddName a b) x
first_instance a b is None keeps = λ name h.
    let t = odd_there a b name.text h.odd in
    kept_or_odd a b t.0 is t.1 (keeps t.0 t.1) (subst (λ (x : List ℕ). IsOddInstance a b x) (sym t.2) h.odd)
first_instance a b is (Some name) f = f

pub instances_told : (a b : Netlist) → IsNetlist a → IsNetlist b → (x y : Option Name) → IsFirstInstance a b x → IsFirstInstance b a y → IsFirst (IsInstanceAtFault a b) (lesser x y)
instances_told a b is_a is_b x y f g =
    first_of_both (IsOddName a b) (IsOddName b a) (IsInstanceAtFault a b) (odd_name_here a b) (odd_name_there a b) (name_differs a b) x y (first_instance a b is_a x f) (first_instance b a is_b y g)

-- ---- nothing differs

lesser_none : (x y : Option Name) → lesser x y ≡ None → (x ≡ None) × (y ≡ None)
lesser_none None None e = (refl, refl)
lesser_none None (Some b) e = absurd cc
lesser_none (Some a) None e = absurd cc
lesser_none (Some a) (Some b) e = by (comes_before b a) e where
  by : (t : Bool) → cond t (Some b) (Some a) ≡ None → (Some a ≡ None) × (Some b ≡ None)
  by true e = absurd cc
  by false e = absurd cc

module _ (a b : Netlist) (is : IsNetlist a) (ports : IsFirstPort a b None) (instances : IsFirstInstance a b None) where
  keeps_port : (name : Name) → HasPort a name → HasPort b name
  keeps_port name h = port_back b name (joined_there b (port name) (port name) ((ports name h (port name)).0 (port_joined a is name h)))

  keeps_instance : (name model : List ℕ) → HasInstance a name model → HasInstance b name model
  keeps_instance name model h =
      let k = (instances h.instance h.listed).model in
      subst (λ (m : List ℕ). HasInstance b name m) h.modelled (subst (λ (x : List ℕ). HasInstance b x h.instance.model) h.named k)

  keeps_members : (s : Terminal) → IsThere (terminals a) s → KeepsMembers a b s
  keeps_members s t = by (which a s t) where
    by : Which a s → KeepsMembers a b s
    by (which_port p h e) = subst (λ (x : Terminal). KeepsMembers a b x) e (ports p.name (h.0, mapped (λ (x : Port). x.name) a.ports h.0 p h.1))
    by (which_pin i pin h g e) = subst (λ (x : Terminal). KeepsMembers a b x) e ((instances i h).pins pin g)

  keeps_joined : (s t : Terminal) → AreJoined a s t → AreJoined b s t
  keeps_joined s t j = (keeps_members s (joined_there a s t j) t).0 j

pub all_same : (a b : Netlist) → IsNetlist a → IsNetlist b → IsFirstPort a b None → IsFirstPort b a None → IsFirstInstance a b None → IsFirstInstance b a None → AreSame a b
all_same a b is_a is_b p q i j = record {
  ports = λ name. (keeps_port a b is_a p i name, keeps_port b a is_b q j name);
  instances = λ name model. (keeps_instance a b is_a p i name model, keeps_instance b a is_b q j name model);
  classes = λ s t. (keeps_joined a b is_a p i s t, keeps_joined b a is_b q j s t);
}

-- ---- verdicts

-- what a verdict says
abbrev pub IsVerdict : Netlist → Netlist → Verdict → Type 0
IsVerdict a b verdict.Same = AreSame a b
IsVerdict a b (verdict.Different name) = IsDifference a b name

-- what the two see of their ports
pub record SeePorts (a b : Netlist) (p q : Option Name) : Type 0 where
  pub first : IsNetlist a
  pub second : IsNetlist b
  pub here : IsFirstPort a b p
  pub there : IsFirstPort b a q

pub see_ports : (a b : Netlist) (ms ns ds es : List Bool) (p q : Option Name) → AreMarks a b ms → AreMarks b a ns → ds ≡ ms → es ≡ ns
    → ((other : Netlist) → AreMarks a other ds → IsFirstPort a other p) → ((other : Netlist) → AreMarks b other es → IsFirstPort b other q) → SeePorts a b p q
see_ports a b ms ns ds es p q are_a are_b e f here there = record {
  first = are_a.sound;
  second = are_b.sound;
  here = here b (subst (λ (xs : List Bool). AreMarks a b xs) (sym e) are_a);
  there = there a (subst (λ (xs : List Bool). AreMarks b a xs) (sym f) are_b);
}

pub port_told : (a b : Netlist) (p q : Option Name) (name : Name) → SeePorts a b p q → lesser p q ≡ Some name → IsDifference a b name
port_told a b p q name seen e =
    told.at_port (subst (λ (o : Option Name). IsFirst (DiffersAtPort a b) o) e (ports_told a b seen.first seen.second p q seen.here seen.there))

pub instance_told : (a b : Netlist) (p q x y : Option Name) (name : Name) → SeePorts a b p q → IsFirstInstance a b x → IsFirstInstance b a y → lesser p q ≡ None → lesser x y ≡ Some name
    → IsDifference a b name
instance_told a b p q x y name seen here there none e =
    told.at_instance (subst (λ (o : Option Name). IsFirst (DiffersAtPort a b) o) none (ports_told a b seen.first seen.second p q seen.here seen.there))
    (subst (λ (o : Option Name). IsFirst (IsInstanceAtFault a b) o) e (instances_told a b seen.first seen.second x y here there))

pub same_told : (a b : Netlist) (p q x y : Option Name) → SeePorts a b p q → IsFirstInstance a b x → IsFirstInstance b a y → lesser p q ≡ None → lesser x y ≡ None → AreSame a b
same_told a b p q x y seen here there none empty =
    let m = lesser_none p q none in
    let n = lesser_none x y empty in
    all_same a b seen.first seen.second
    (subst (λ (o : Option Name). IsFirstPort a b o) m.0 seen.here) (subst (λ (o : Option Name). IsFirstPort b a o) m.1 seen.there)
    (subst (λ (o : Option Name). IsFirstInstance a b o) n.0 here) (subst (λ (o : Option Name). IsFirstInstance b a o) n.1 there)

-- ---- a verdict is the only one

same_port : (a b : Netlist) → AreSame a b → (name : Name) → DiffersAtPort a b name → ⊥
same_port a b same name (told.lacking (inl p)) = p.1 ((same.ports name).0 p.0)
same_port a b same name (told.lacking (inr q)) = q.1 ((same.ports name).1 q.0)
same_port a b same name (told.members (s, inl p)) = p.1 ((same.classes (port name) s).0 p.0)
same_port a b same name (told.members (s, inr q)) = q.1 ((same.classes (port name) s).1 q.0)

same_instance : (a b : Netlist) → AreSame a b → (name : List ℕ) → DiffersAtInstance a b name → ⊥
same_instance a b same name (told.modelled model (inl p)) = p.1 ((same.instances name model).0 p.0)
same_instance a b same name (told.modelled model (inr q)) = q.1 ((same.instances name model).1 q.0)
same_instance a b same name (told.joined pin (s, inl p)) = p.1 ((same.classes (pin_of name pin) s).0 p.0)
same_instance a b same name (told.joined pin (s, inr q)) = q.1 ((same.classes (pin_of name pin) s).1 q.0)

same_or_different : (a b : Netlist) → AreSame a b → (name : Name) → IsDifference a b name → ⊥
same_or_different a b same name (told.at_port l) = same_port a b same name l.holds
same_or_different a b same name (told.at_instance none l) = same_instance a b same name.text l.holds.differs

one_least : (P : Name → Type 0) (x y : Name) → IsLeast P x → IsLeast P y → x ≡ y
one_least P x y l m = by (name_cmp x y) refl where
  by : (o : Ordering) → name_cmp x y ≡ o → x ≡ y
  by Less is = absurd (not_less_than x y (m.least x l.holds) is)
  by Equal is = name_equal x y is
  by Greater is = absurd (not_less_than y x (l.least y m.holds) (name_total.antisymm y x ∙ ap ordering_reverse is))

one_difference : (a b : Netlist) (x y : Name) → IsDifference a b x → IsDifference a b y → x ≡ y
one_difference a b x y (told.at_port l) (told.at_port m) = one_least (DiffersAtPort a b) x y l m
one_difference a b x y (told.at_port l) (told.at_instance none m) = absurd (none x l.holds)
one_difference a b x y (told.at_instance none l) (told.at_port m) = absurd (none y m.holds)
one_difference a b x y (told.at_instance none l) (told.at_instance other m) = one_least (IsInstanceAtFault a b) x y l m

pub exactly_same : (a b : Netlist) (v : Verdict) → IsVerdict a b v → (v ≡ verdict.Same) ↔ AreSame a b
exactly_same a b verdict.Same is = (λ e. is, λ s. refl)
exactly_same a b (verdict.Different name) is = (λ e. absurd cc, λ s. absurd (same_or_different a b s name is))

pub exactly_different : (a b : Netlist) (v : Verdict) → IsVerdict a b v → (name : Name) → (v ≡ verdict.Different name) ↔ IsDifference a b name
exactly_different a b verdict.Same is name = (λ e. absurd cc, λ d. absurd (same_or_different a b is name d))
exactly_different a b (verdict.Different other) is name =
    (λ e. let same : other ≡ name = cc in subst (λ (x : Name). IsDifference a b x) same is, λ d. ap verdict.Different (one_difference a b other name is d))
