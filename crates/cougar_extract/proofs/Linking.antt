-- Connectors, their leaders, and the marks of output pins, step by step.
use Rattle.std.proofs.Common.{◌≡◌, ◌⊎◌, inl, inr, ◌↔◌, ℕ, zero, suc, ◌+◌, ◌<◌, ◌≤◌, Bool, true, false, List, [], ◌∷◌, ◌++◌, map, length, take, get_or, replicate, Option, None, Some, refl, sym, ap, subst, ◌∙◌, arith, append-nil}
use Rattle.std.specs.Prelude.{slice_set}
use Rattle.std.proofs.lemmas.List.{get_or-set_same, get_or-set_other, take_more}
use Rattle.std.proofs.lemmas.Option.{slice_get_within, same_Some}
use Rattle.std.proofs.lemmas.Bool.{cases_lt}
use Rattle.vlsi_base.specs.declared.name.Name.{Name}
use Rattle.vlsi_base.specs.declared.name.Terminal.{Terminal}
use Rattle.vlsi_base.specs.Member.{In}
use Rattle.sym_shapes.specs.Shape.{Shape, label}
use Rattle.sym_shapes.specs.Joined.{Shows}
use Rattle.net_core.specs.Places.{Stands, IsThere}
use Rattle.net_core.proofs.Joining.{in_left, in_last, in_cases}
use Rattle.net_core.proofs.Standing.{stands_same}
use Rattle.net_right.proofs.Lists.{in_place}
use Rattle.cougar_extract.specs.declared.links.Link.{Link}
use Rattle.cougar_extract.specs.Stages.{IsLinkAt, shape_links, AreLinks, AreBelow, HasOutput, AreOutputs, AreDrivenTexts, IsLeader, AreLeaders}
use Rattle.cougar_extract.proofs.LeastPairs.{cases_eq}

-- ---- connectors

pub no_links : (shapes : List Shape) (numbers : List ℕ) (outputs : List Bool) → AreLinks shapes numbers outputs 0 []
no_links shapes numbers outputs = record { sound = λ x h. elim h [ ]; complete = λ k s t low _ _. absurd (omega (arith, low)) }

-- a shape with a name is a connector more
pub links_more : (shapes : List Shape) (numbers : List ℕ) (outputs : List Bool) (k : ℕ) (links : List Link) (s : Shape) (name : Name) (x : Link)
    → Stands shapes k s → s.name ≡ Some name → x.terminal ≡ record { instance = s.owner; pin = name } → x.number ≡ get_or numbers k 0 → x.gives ≡ get_or outputs k false
    → AreLinks shapes numbers outputs k links → AreLinks shapes numbers outputs (k + 1) (links ++ x ∷ [])
links_more shapes numbers outputs k links s name x at named shown number marked are = record { sound = sound; complete = complete } where
  own : IsLinkAt shapes numbers outputs k x
  own = record {
    shape = s;
    stands = at;
    shows = record { owner = sym (ap (λ (t : Terminal). t.instance) shown); name = named ∙ ap Some (sym (ap (λ (t : Terminal). t.pin) shown)) };
    number = number;
    gives = marked;
  }

  sound : (y : Link) → In y (links ++ x ∷ []) → (j : ℕ) × (j < k + 1) × IsLinkAt shapes numbers outputs j y
  sound y h = elim (in_cases links y x h) [
    | inl i ↦ let r = are.sound y i in let low = r.1 in (r.0, omega (arith, low), r.2)
    | inr e ↦ (k, omega arith, subst (λ (z : Link). IsLinkAt shapes numbers outputs k z) (sym e) own)
  ]

  Found : ℕ → Terminal → Type 0
  Found j t = (y : Link) × In y (links ++ x ∷ []) × (y.terminal ≡ t) × (y.number ≡ get_or numbers j 0) × (y.gives ≡ get_or outputs j false)

  shows_own : (t : Terminal) → Shows t s → x.terminal ≡ t
  shows_own t shows =
      let pin : name ≡ t.pin = same_Some name t.pin (sym named ∙ shows.name) in
      shown ∙ (λ i. record { instance = shows.owner i; pin = pin i })

  complete : (j : ℕ) (u : Shape) (t : Terminal) → j < k + 1 → Stands shapes j u → Shows t u → Found j t
  complete j u t low stands shows = elim (cases_lt j k) [
    | inl less ↦ let r = are.complete j u t less stands shows in (r.0, in_left (x ∷ []) r.1, r.2, r.3, r.4)
    | inr most ↦
        let place : k ≡ j = omega (arith, low, most) in
        let same : s ≡ u = stands_same shapes j s u (let P : ℕ → Type 0 = λ i. Stands shapes i s in subst P place at) stands in
        let here_it : Found k t = (x, in_last links x, shows_own t (subst (λ (z : Shape). Shows t z) (sym same) shows), number, marked) in
        let P : ℕ → Type 0 = λ i. Found i t in subst P place here_it
  ]

-- and one without a name is none
pub links_kept : (shapes : List Shape) (numbers : List ℕ) (outputs : List Bool) (k : ℕ) (links : List Link) (s : Shape)
    → Stands shapes k s → s.name ≡ None → AreLinks shapes numbers outputs k links → AreLinks shapes numbers outputs (k + 1) links
links_kept shapes numbers outputs k links s at none are = record {
  sound = λ y h. let r = are.sound y h in let low = r.1 in (r.0, omega (arith, low), r.2);
  complete = λ j u t low stands shows. elim (cases_lt j k) [
    | inl less ↦ are.complete j u t less stands shows
    | inr most ↦
        let place : k ≡ j = omega (arith, low, most) in
        let same : s ≡ u = stands_same shapes j s u (let P : ℕ → Type 0 = λ i. Stands shapes i s in subst P place at) stands in
        let clash : None ≡ Some t.pin = sym none ∙ ap (λ (z : Shape). z.name) same ∙ shows.name in
        absurd cc
  ];
}

-- ---- leaders

-- each of the first k connectors has a leader
abbrev pub LedTo : List Link → List ℕ → ℕ → Type 0
LedTo links places k = (j : ℕ) (x : Link) → j < k → Stands links j x → IsLeader links places x

pub led_step : (links : List Link) (places : List ℕ) (k : ℕ) (own : Link) → Stands links k own → own.number < length places → LedTo links places k
    → LedTo links (slice_set places own.number k) (k + 1)
led_step links places k own at room led j x low stands = by (cases_eq x.number own.number) where
  now : List ℕ
  now = slice_set places own.number k

  by : (x.number ≡ own.number) ⊎ (x.number ≡ own.number → ⊥) → IsLeader links now x
  by (inl e) =
      let place : get_or now x.number 0 ≡ k = subst (λ (i : ℕ). get_or now i 0 ≡ k) (sym e) (get_or-set_same places own.number k 0 room) in
      record { leader = own; stands = let P : ℕ → Type 0 = λ i. Stands links i own in subst P (sym place) at; same = sym e }
  by (inr differ) =
      let place : get_or now x.number 0 ≡ get_or places x.number 0 = get_or-set_other places own.number x.number k 0 differ in
      let earlier : j < k = elim (cases_lt j k) [
        | inl less ↦ less
        | inr most ↦
            let here_it : j ≡ k = omega (arith, low, most) in
            let same : x ≡ own = stands_same links k x own (let P : ℕ → Type 0 = λ i. Stands links i x in subst P here_it stands) at in
            absurd (differ (ap (λ (y : Link). y.number) same))
      ] in
      let old = led j x earlier stands in
      record { leader = old.leader; stands = let P : ℕ → Type 0 = λ i. Stands links i old.leader in subst P (sym place) old.stands; same = old.same }

pub led_all : (links : List Link) (places : List ℕ) (k : ℕ) → length links ≤ k → LedTo links places k → AreLeaders links places
led_all links places k most led x h = let p = in_place x links h in let low = slice_get_within links p.0 x p.1 in led p.0 x (omega (arith, low, most)) p.1

-- ---- marks of output pins

pub none_marked : (count n : ℕ) → get_or (replicate count false) n false ≡ false
none_marked zero n = refl
none_marked (suc count) zero = refl
none_marked (suc count) (suc n) = none_marked count n

pub outputs_start : (count : ℕ) → AreOutputs [] (replicate count false)
outputs_start count n = (λ e. let c : false ≡ true = sym (none_marked count n) ∙ e in absurd cc, λ h. elim h.listed [ ])

output_more : (links : List Link) (x : Link) (n : ℕ) → HasOutput links n → HasOutput (links ++ x ∷ []) n
output_more links x n h = record { link = h.link; listed = in_left (x ∷ []) h.listed; numbered = h.numbered; gives = h.gives }

-- an output pin more is marked
pub outputs_mark : (links : List Link) (marks : List Bool) (x : Link) → x.number < length marks → x.gives ≡ true → AreOutputs links marks
    → AreOutputs (links ++ x ∷ []) (slice_set marks x.number true)
outputs_mark links marks x room is are n = by (cases_eq n x.number) where
  by : (n ≡ x.number) ⊎ (n ≡ x.number → ⊥) → (get_or (slice_set marks x.number true) n false ≡ true) ↔ HasOutput (links ++ x ∷ []) n
  by (inl e) = (
    λ _. record { link = x; listed = in_last links x; numbered = sym e; gives = is },
    λ _. subst (λ (i : ℕ). get_or (slice_set marks x.number true) i false ≡ true) (sym e) (get_or-set_same marks x.number true false room),
  )
  by (inr differ) =
      let same : get_or (slice_set marks x.number true) n false ≡ get_or marks n false = get_or-set_other marks x.number n true false differ in (
        λ e. output_more links x n ((are n).0 (sym same ∙ e)),
        λ h. elim (in_cases links h.link x h.listed) [
          | inl i ↦ same ∙ (are n).1 (record { link = h.link; listed = i; numbered = h.numbered; gives = h.gives })
          | inr e ↦ absurd (differ (sym h.numbered ∙ ap (λ (y : Link). y.number) e))
        ],
      )

pub outputs_keep : (links : List Link) (marks : List Bool) (x : Link) → x.gives ≡ false → AreOutputs links marks → AreOutputs (links ++ x ∷ []) marks
outputs_keep links marks x idle are n = (
  λ e. output_more links x n ((are n).0 e),
  λ h. elim (in_cases links h.link x h.listed) [
    | inl i ↦ (are n).1 (record { link = h.link; listed = i; numbered = h.numbered; gives = h.gives })
    | inr e ↦ let c : true ≡ false = sym h.gives ∙ ap (λ (y : Link). y.gives) e ∙ idle in absurd cc
  ],
)

-- ---- driven texts

-- a port bit of this text among these connectors has the number of an output pin among all
pub record DrivenBy (seen links : List Link) (text : List ℕ) : Type 0 where
  pub bit : Link
  pub listed : In bit seen
  pub of_port : bit.terminal.instance ≡ None
  pub named : bit.terminal.pin.text ≡ text
  pub output : HasOutput links bit.number

abbrev pub TextsTo : List Link → List Link → List (List ℕ) → Type 0
TextsTo seen links texts = (t : List ℕ) → IsThere texts t ↔ DrivenBy seen links t

pub texts_start : (links : List Link) → TextsTo [] links []
texts_start links t = (λ h. absurd (let e : None ≡ Some t = h.1 in cc), λ d. elim d.listed [ ])

driven_more : (seen links : List Link) (x : Link) (t : List ℕ) → DrivenBy seen links t → DrivenBy (seen ++ x ∷ []) links t
driven_more seen links x t d = record { bit = d.bit; listed = in_left (x ∷ []) d.listed; of_port = d.of_port; named = d.named; output = d.output }

-- the text of a driven bit is learned
pub texts_learn : (seen links : List Link) (old new : List (List ℕ)) (x : Link) → x.terminal.instance ≡ None → HasOutput links x.number
    → ((t : List ℕ) → IsThere new t ↔ (IsThere old t ⊎ (t ≡ x.terminal.pin.text))) → TextsTo seen links old → TextsTo (seen ++ x ∷ []) links new
texts_learn seen links old new x bare output grown are t = (
  λ h. elim ((grown t).0 h) [
    | inl o ↦ driven_more seen links x t ((are t).0 o)
    | inr e ↦ record { bit = x; listed = in_last seen x; of_port = bare; named = sym e; output = output }
  ],
  λ d. elim (in_cases seen d.bit x d.listed) [
    | inl i ↦ (grown t).1 (inl ((are t).1 (record { bit = d.bit; listed = i; of_port = d.of_port; named = d.named; output = d.output })))
    | inr e ↦ (grown t).1 (inr (sym d.named ∙ ap (λ (y : Link). y.terminal.pin.text) e))
  ],
)

-- and another connector changes nothing
pub texts_keep : (seen links : List Link) (texts : List (List ℕ)) (x : Link) → (x.terminal.instance ≡ None → HasOutput links x.number → ⊥) → TextsTo seen links texts
    → TextsTo (seen ++ x ∷ []) links texts
texts_keep seen links texts x none are t = (
  λ h. driven_more seen links x t ((are t).0 h),
  λ d. elim (in_cases seen d.bit x d.listed) [
    | inl i ↦ (are t).1 (record { bit = d.bit; listed = i; of_port = d.of_port; named = d.named; output = d.output })
    | inr e ↦
        absurd (none (subst (λ (y : Link). y.terminal.instance ≡ None) e d.of_port) (subst (λ (y : Link). HasOutput links y.number) e d.output))
  ],
)

pub texts_all : (links : List Link) (texts : List (List ℕ)) → TextsTo links links texts → AreDrivenTexts links texts
texts_all links texts are t = (
  λ h. let d = (are t).0 h in record { bit = d.bit; listed = d.listed; of_port = d.of_port; named = d.named; output = d.output },
  λ d. (are t).1 (record { bit = d.bit; listed = d.listed; of_port = d.of_port; named = d.named; output = d.output }),
)

-- ---- what is read at a place

-- the number of a connector that was read is below the count
pub number_low : (links : List Link) (count k : ℕ) (x : Link) → AreBelow links count → k < length links → x ≡ get_or links k x → x.number < count
number_low links count k x below low is = subst (λ (y : Link). y.number < count) (sym is) (below k x low)

-- the connectors up to the one that was read
pub take_read : (links : List Link) (k : ℕ) (x : Link) → k < length links → x ≡ get_or links k x → take (k + 1) links ≡ take k links ++ x ∷ []
take_read links k x low is = take_more links k x low ∙ ap (λ (y : Link). take k links ++ y ∷ []) (sym is)

-- all of them
pub take_whole : (links : List Link) (k : ℕ) → length links ≤ k → take k links ≡ links
take_whole [] zero h = refl
take_whole [] (suc k) h = refl
take_whole (x ∷ links) zero h = absurd (omega (arith, h))
take_whole (x ∷ links) (suc k) h = ap (λ (ls : List Link). x ∷ ls) (take_whole links k (omega (arith, h)))

-- the next shape, whether it has a name or not
pub links_next : (shapes : List Shape) (numbers : List ℕ) (outputs : List Bool) (k : ℕ) (links now : List Link) (s : Shape) → Stands shapes k s
    → now ≡ links ++ shape_links s (get_or numbers k 0) (get_or outputs k false) → AreLinks shapes numbers outputs k links → AreLinks shapes numbers outputs (k + 1) now
links_next shapes numbers outputs k links now s at made are = by s.name refl where
  one : Name → Link
  one name = record { number = get_or numbers k 0; terminal = record { instance = s.owner; pin = name }; gives = get_or outputs k false }

  by : (o : Option Name) → s.name ≡ o → AreLinks shapes numbers outputs (k + 1) now
  by None e =
      let same : now ≡ links = made ∙ ap (λ (x : Option Name). links ++ map one (label x)) e ∙ append-nil links in
      subst (λ (ls : List Link). AreLinks shapes numbers outputs (k + 1) ls) (sym same) (links_kept shapes numbers outputs k links s at e are)
  by (Some name) e =
      let more : now ≡ links ++ one name ∷ [] = made ∙ ap (λ (x : Option Name). links ++ map one (label x)) e in
      subst (λ (ls : List Link). AreLinks shapes numbers outputs (k + 1) ls) (sym more)
      (links_more shapes numbers outputs k links s name (one name) at e refl refl refl are)
