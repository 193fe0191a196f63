-- What is told of a step, at each place where a test of it ends.
-- Assumes nothing.
use Prim.Native.Nat.{ℕ, ◌-◌, ◌%◌, ◌≤◌, ◌<◌}
use mathlib.Core.Path.{◌≡◌, refl, sym, ◌∙◌, ap, subst}
use mathlib.Core.Bool.{Bool, true, false, cond, true≢false}
use mathlib.Core.List.{List}
use native.Mathlib.Omega.{arith}
use lib.ListN.{length}
use lib.IntN.{neg_ℤ}
use Rattle.whole.proofs.Parts.{neg-plus, neg-minus}
use Rattle.big.specs.Big.{Bytes, signed_of}
use Rattle.order.specs.First.{Set}
use Rattle.sheet.specs.Sheet.{unequal, Entry, Sheet, count_terms, term_at, entry_at}
use Rattle.sheet.specs.Decode.{stated_terms, stated_entries, sheet_of}
use Rattle.sheet.proofs.Decode.{terms-stated, entries-stated}
use Rattle.sheet.proofs.Below.{arguments-wider}
use Rattle.meaning.specs.Decides.{Decides}
use Rattle.meaning.proofs.Decides.{refuted, told}
use Rattle.reasons.specs.Step.{Step}
use Rattle.reasons.specs.Rules.{TieWithin}
use Rattle.stated.specs.declared.Step.{Step as Record}
use Rattle.legs.specs.Legs.{range, gap_for}
use Rattle.strides.specs.Trodden.{Small}
use Rattle.strides.proofs.Gaps.{tie-gap}
use Rattle.strides.proofs.Told.{small-sheet}
use Rattle.linked.specs.Known.{Known}
use Rattle.probes.specs.Probes.{TiedSays, TiedAtSays, GoesTo}
use Rattle.upheld.specs.Ruled.{Asked, TellsInput, TellsTie, TellsClosing, Ruled}
use Rattle.upheld.specs.declared.Ruling.TheVariants.{Wrong, Ties, Closes}
use Rattle.upheld.proofs.Gaps.{tie-back}
use Rattle.upheld.proofs.Walks.{Falls, goes-walk, walk-goes, falls-sinks, sinks-falls}
use Rattle.upheld.proofs.Groups.{TiedBy, apart-told, at_told}
use Rattle.upheld.proofs.Forms.{ByWalks, walks-tie, tie-walks, ByFunctions, functions-tie, tie-functions, round-closing, closing-round, OnEntry, entry-closing, closing-entry, tie-kind, closing-kind}

-- what the first test of each kind lets through
abbrev pub WalksOn : (terms : ℕ) → Record → Type 0
WalksOn terms k = ((k.a ≤ terms) × (k.b ≤ terms)) × TieWithin (signed_of 8 k.c)

abbrev pub FunctionsOn : (terms : ℕ) → Record → Type 0
FunctionsOn terms k = ((((k.c ≡ 0) × (k.first ≡ 0)) × (k.second ≡ 0)) × (k.a < terms)) × (k.b < terms)

abbrev pub RoundOn : (terms : ℕ) → Record → Type 0
RoundOn terms k = (((k.b ≡ 0) × (k.c ≡ 0)) × (k.second ≡ 0)) × (k.a ≤ terms)

abbrev pub EntryOn : (entries : ℕ) → Record → Type 0
EntryOn entries k = ((((k.b ≡ 0) × (k.c ≡ 0)) × (k.first ≡ 0)) × (k.second ≡ 0)) × (k.a < entries)

-- few terms, as the code reads their number
pub few-terms : {b legs links : List ℕ} → Asked b legs links → stated_terms b ≤ 128
few-terms {b} A = let l = A.well-formed.terms in omega (arith, terms-stated b)

tied-same : {steps : List Step} {n : ℕ} {d e : Entry} → d ≡ e → TiedBy steps n d.a d.b d.c → TiedBy steps n e.a e.b e.c
tied-same {steps} {n} q = subst (λ (x : Entry). TiedBy steps n x.a x.b x.c) q

module _ {b legs links : List ℕ} (A : Asked b legs links) (k : Record) where
  -- a tie by walks
  module _ (kind : k.kind ≡ 0) where
    walks-false : ((listed : Set) (steps : List Step) (n : ℕ) → Known (sheet_of b) listed steps n legs links →
        ByWalks (sheet_of b) listed steps n k → ⊥) → TellsTie b legs links k false
    walks-false n = record { decides = λ K. refuted (λ R. n _ _ _ K (tie-walks kind R)) }

    pub walks-off : (WalksOn (stated_terms b) k → ⊥) → TellsTie b legs links k false
    walks-off h = walks-false (λ listed steps n K W.
        let e = terms-stated b in
        let l = W.left in
        let r = W.right in
        h ((omega arith, omega arith), W.within))

    pub walks-grouped : TiedSays links k.a k.b true → TellsTie b legs links k false
    walks-grouped S = walks-false (λ listed steps n K W. (apart-told K W.left W.right S).1 refl W.apart)

    module _ (B : Bytes b) (there : 129 ≤ length k.there) where
      pub walks-nowhere : (GoesTo legs k.there (stated_terms b) k.first k.a k.b (k.c % range) → ⊥) → TellsTie b legs links k false
      walks-nowhere n = walks-false (λ listed steps m K W.
          n (walk-goes A.well-formed (small-sheet b B) K (terms-stated b) k.there (signed_of 8 k.c) (tie-gap k.c W.within) there
          W.there))

      pub walks-told : {r : Bool} → 129 ≤ length k.back → WalksOn (stated_terms b) k → TiedSays links k.a k.b false →
          GoesTo legs k.there (stated_terms b) k.first k.a k.b (k.c % range) →
          Decides (GoesTo legs k.back (stated_terms b) k.second k.b k.a ((range - k.c % range) % range)) r → TellsTie b legs links k r
      walks-told back ((l, m), w) S G D = record {
        decides = λ K.
            let e = terms-stated b in
            let c = signed_of 8 k.c in
            let (p, q) = w in
            told
            (λ H. walks-tie kind (record {
              left = omega arith;
              right = omega arith;
              within = w;
              apart = (apart-told K (omega arith) (omega arith) S).0 refl;
              there = goes-walk A.well-formed (small-sheet b B) K e c (tie-gap k.c w) w there G;
              back = goes-walk A.well-formed (small-sheet b B) K e (neg_ℤ c) (tie-back k.c w)
                  (omega (arith, neg-plus c), omega (arith, neg-minus c)) back H;
            }))
            (λ R. walk-goes A.well-formed (small-sheet b B) K e k.back (neg_ℤ c) (tie-back k.c w) back (tie-walks kind R).back)
            D;
      }

  -- a tie of applications
  module _ (kind : k.kind ≡ 1) where
    functions-false : ((listed : Set) (steps : List Step) (n : ℕ) → Known (sheet_of b) listed steps n legs links →
        ByFunctions (sheet_of b) listed steps n k → ⊥) → TellsTie b legs links k false
    functions-false n = record { decides = λ K. refuted (λ R. n _ _ _ K (tie-functions kind R)) }

    pub functions-off : (FunctionsOn (stated_terms b) k → ⊥) → TellsTie b legs links k false
    functions-off h = functions-false (λ listed steps n K F.
        let e = terms-stated b in
        let l = F.left in
        let r = F.right in
        h ((((F.c, F.first), F.second), omega arith), omega arith))

    pub functions-grouped : TiedSays links k.a k.b true → TellsTie b legs links k false
    functions-grouped S = functions-false (λ listed steps n K F.
        let l = F.left in
        let r = F.right in
        (apart-told K (omega arith) (omega arith) S).1 refl F.apart)

    pub functions-told : {r : Bool} → FunctionsOn (stated_terms b) k → TiedSays links k.a k.b false →
        TellsInput links (term_at (sheet_of b) k.a) (term_at (sheet_of b) k.b) r → TellsTie b legs links k r
    functions-told ((((c, first), second), l), m) S D = record {
      decides = λ K.
          let e = terms-stated b in
          told
          (λ I. functions-tie kind (record {
            c = c;
            first = first;
            second = second;
            left = omega arith;
            right = omega arith;
            apart = (apart-told K (omega arith) (omega arith) S).0 refl;
            same = I;
          }))
          (λ R. (tie-functions kind R).same)
          (D.decides K (arguments-wider (omega arith) (A.well-formed.arguments k.a (omega arith)))
          (arguments-wider (omega arith) (A.well-formed.arguments k.b (omega arith))));
    }

  -- a closing walk
  module _ (kind : k.kind ≡ 2) (listed : Set) where
    pub round-off : (RoundOn (stated_terms b) k → ⊥) → TellsClosing b legs links listed k false
    round-off h = record {
      decides = λ K. refuted (λ R.
          let W = closing-round kind R in
          let e = terms-stated b in
          let l = W.point in
          h (((W.b, W.c), W.second), omega arith));
    }

    module _ (B : Bytes b) (room : 129 ≤ length k.there) where
      pub round-nowhere : (Falls legs k.there (stated_terms b) k.first k.a k.a → ⊥) → TellsClosing b legs links listed k false
      round-nowhere n = record {
        decides = λ K. refuted (λ R.
            n (sinks-falls A.well-formed (small-sheet b B) K (terms-stated b) k.there room (closing-round kind R).sinks));
      }

      pub round-told : {r : Bool} → RoundOn (stated_terms b) k → Decides (Falls legs k.there (stated_terms b) k.first k.a k.a) r →
          TellsClosing b legs links listed k r
      round-told (((zero, c), second), l) D = record {
        decides = λ K.
            let e = terms-stated b in
            told
            (λ F. round-closing kind (record {
              b = zero;
              c = c;
              second = second;
              point = omega arith;
              sinks = falls-sinks A.well-formed (small-sheet b B) K e k.there room F;
            }))
            (λ R. sinks-falls A.well-formed (small-sheet b B) K e k.there room (closing-round kind R).sinks)
            D;
      }

  -- a closing entry
  module _ (kind : k.kind ≡ 3) (listed : Set) where
    entry-false : ((steps : List Step) (n : ℕ) → OnEntry (sheet_of b) listed steps n k → ⊥) → TellsClosing b legs links listed k false
    entry-false n = record { decides = λ K. refuted (λ R. n _ _ (closing-entry kind R)) }

    pub entry-off : (EntryOn (stated_entries b) k → ⊥) → TellsClosing b legs links listed k false
    entry-off h = entry-false (λ steps n E.
        let e = entries-stated b in
        let l = E.usable.there in
        h ((((E.b, E.c), E.first), E.second), omega arith))

    pub entry-unlisted : listed k.a ≡ false → TellsClosing b legs links listed k false
    entry-unlisted e = entry-false (λ steps n E. true≢false (sym E.usable.on_list ∙ e))

    pub entry_other : ((entry_at (sheet_of b) k.a).relation ≡ unequal → ⊥) → TellsClosing b legs links listed k false
    entry_other n = entry-false (λ steps m E. n E.unequal-is)

    pub entry-told : {gap : ℕ} {r : Bool} (e : Entry) → Bytes b → EntryOn (stated_entries b) k → listed k.a ≡ true →
        e ≡ entry_at (sheet_of b) k.a → e.relation ≡ unequal → gap ≡ gap_for e.c → TiedAtSays links e.a e.b gap r →
        TellsClosing b legs links listed k r
    entry-told e B ((((zero, c), first), second), l) on is u g S = record {
      decides = λ K.
          let q = entries-stated b in
          let own = subst (λ (x : Entry). x.a < count_terms (sheet_of b)) (sym is) (A.well-formed.left k.a (omega arith)) in
          let other = subst (λ (x : Entry). x.b < count_terms (sheet_of b)) (sym is) (A.well-formed.right k.a (omega arith)) in
          let (up, down) = subst (λ (x : Entry). Small x.c) (sym is) ((small-sheet b B).entries k.a) in
          told
          (λ T. entry-closing kind (record {
            b = zero;
            c = c;
            first = first;
            second = second;
            usable = record { there = omega arith; on_list = on };
            unequal-is = ap (λ (x : Entry). x.relation) (sym is) ∙ u;
            tied = tied-same is T;
          }))
          (λ R. tied-same (sym is) (closing-entry kind R).tied)
          (at_told K (omega arith) (omega arith) e.c g (omega arith) (omega arith) S);
    }

-- a ruling: ties are of kind 0 or 1, closings of kind 2 or 3
module _ {b legs links : List ℕ} {listed : Set} {steps : List Step} {n : ℕ} (K : Known (sheet_of b) listed steps n legs links) (k : Record) where
  pub tie-ruled : (right : Bool) → k.kind < 2 → TellsTie b legs links k right → Ruled (sheet_of b) listed steps n k (cond right Ties Wrong)
  tie-ruled true l T = (T.decides K).yes refl
  tie-ruled false l T = ((T.decides K).no refl, λ R. let m = closing-kind R in omega arith)

  pub closing-ruled : (right : Bool) → 2 ≤ k.kind → TellsClosing b legs links listed k right →
      Ruled (sheet_of b) listed steps n k (cond right Closes Wrong)
  closing-ruled true l T = (T.decides K).yes refl
  closing-ruled false l T = (λ R. let m = tie-kind R in omega arith, (T.decides K).no refl)

pub none-ruled : {s : Sheet} {listed : Set} {steps : List Step} {n : ℕ} (k : Record) → 4 ≤ k.kind → Ruled s listed steps n k Wrong
none-ruled k l = (λ R. let m = tie-kind R in omega arith, λ R. let m = closing-kind R in omega arith)
