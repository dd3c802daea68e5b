-- The loop over a host's list of calls: what the library's functions leave, and that it follows the machine's replies.
use mathlib.Core.Path.{◌≡◌, refl, ap, ap₂, sym, ◌∙◌, subst}
use mathlib.Core.Bool.{true, false, ◌||◌}
use mathlib.Core.List.{List, [], ◌∷◌, ◌++◌, map}
use mathlib.Core.Option.{Option, none}
use Prim.Native.Nat.{ℕ, ◌+◌, ◌≤◌}
use lib.ListN.{drop, get_or, length, take, take-append-drop}
use lib.Dec.{ltb}
use lib.Seq.{length-take-le}
use Rattle.std.proofs.Common.{min}
use Rattle.std.proofs.lemmas.List.{drop_all}
use lib.Ieee.{Float, binary64}
use Rattle.refusals.specs.Numbers.{slice_too_short}
use Rattle.formula.specs.Path.{placed}
use Rattle.machine.specs.Machine.{Call, Reply, State, place_of, resume}
use Rattle.layout.specs.Decode.{program_at}
use Rattle.run.specs.Calls.{resume_at, run_at}
use Rattle.run.specs.Views.{supplied_of}
use Rattle.demand.proofs.Loops.{again_long}
use Rattle.demand.specs.Listed.{Played, call_of, first_call, later_calls, noted, play_at, playing}
use Rattle.demand.specs.declared.calls.Call as Code
use Rattle.vebrostin.specs.Cells.{number_of, question_cells, question_of, state_in}
use Rattle.vebrostin.specs.Calls.{Carries, Leaves, Outcome, after, is_refused, report_length, resume_outcome, run_outcome, short, state_length, untouched, with_room, written}
use Rattle.vebrostin.proofs.Asking.{resume_asks, run_asks}
use Rattle.vebrostin.proofs.Outcomes.{no_room, roomy}
use Rattle.vebrostin.proofs.Crossing.{written_count, written_question, written_value}
use Rattle.hosted.specs.Hosted.{host_at, hosting, lent, resumed}
use Rattle.hosted.specs.Owed.{Follows}

-- ---- the definitions of the library's functions

abbrev pub left : ℕ → List ℕ → List Float → List ℕ → List ℕ → Outcome
left number cells regs path report = record { number = number; cells = cells; registers = regs; path = path; report = report }

left_is : (o : Outcome) (number : ℕ) (cells : List ℕ) (regs : List Float) (part path report : List ℕ) (room : ℕ) → Leaves o number cells regs part report
    → left number cells regs (part ++ drop room path) report ≡ lent room o path
left_is o number cells regs part path report room h = rw (h.0, h.1, h.2, h.3, h.4)

module _ (inputs : List Float) (b : List ℕ) (n : ℕ) (rest : List Code.Call) where
  unfoldable pub hosted_at : Outcome → ℕ → Outcome
  hosted_at x i = hosting inputs b x (map (call_of n) (drop i rest))

  pub hosted_start : (first : Code.Call) (regs regs' : List Float) (cells cells' path part report report' : List ℕ) (number room : ℕ) (calls : List Code.Call)
      → n ≡ length path → room ≡ min first.room n
      → first_call n calls ≡ record { room = min first.room n; budget = first.budget; given = none } → later_calls n calls ≡ map (call_of n) rest
      → Leaves (run_outcome inputs b first.budget regs cells (take room path) report) number cells' regs' part report'
      → hosted_at (left number cells' regs' (part ++ drop room path) report') 0 ≡ host_at inputs b cells path report calls regs
  unfolding hosted_at host_at
  hosted_start first regs regs' cells cells' path part report report' number room calls en er k l h =
      ap (λ x. hosting inputs b x (map (call_of n) rest))
      (left_is (run_outcome inputs b first.budget regs cells (take room path) report) number cells' regs' part path report' room h)
      ∙ rw (er, ← en, k, l)

  pub hosted_step : (c : Code.Call) (regs regs' : List Float) (cells cells' path part report report' : List ℕ) (number number' i room : ℕ)
      → drop i rest ≡ c ∷ drop (i + 1) rest → room ≡ min c.room n
      → Leaves (resume_outcome inputs b c.budget (supplied_of c.supplied) regs cells (take room path) report) number' cells' regs' part report'
      → hosted_at (left number cells regs path report) i ≡ hosted_at (left number' cells' regs' (part ++ drop room path) report') (i + 1)
  unfolding hosted_at
  hosted_step c regs regs' cells cells' path part report report' number number' i room d er l =
      ap (λ (cs : List Code.Call). hosting inputs b (left number cells regs path report) (map (call_of n) cs)) d
      ∙ rw (← er)
      (sym (ap (λ x. hosting inputs b x (map (call_of n) (drop (i + 1) rest)))
      (left_is (resume_outcome inputs b c.budget (supplied_of c.supplied) regs cells (take room path) report) number' cells' regs' part path report' room l)))

  pub hosted_end : (x : Outcome) (i : ℕ) → length rest ≤ i → hosted_at x i ≡ x
  unfolding hosted_at
  hosted_end x i h = rw (drop_all i rest h)

-- ---- too few numbers in the cells or the report

module _ (inputs : List Float) (b : List ℕ) (regs : List Float) (cells path report : List ℕ) (h : short cells report ≡ true) where
  abbrev turned : Outcome
  turned = left slice_too_short cells regs path report

  refused_lent : (room : ℕ) (o : Outcome) → lent room (with_room (short cells report) (untouched cells regs (take room path) report) o) path ≡ turned
  refused_lent room o =
      ap (λ (x : Outcome). lent room x path) (sym (no_room (short cells report) (untouched cells regs (take room path) report) o h))
      ∙ ap (λ (x : List ℕ). left slice_too_short cells regs x report) (take-append-drop room path)

  resumed_short : (c : Call) → resumed inputs b turned c ≡ turned
  unfolding resume_outcome
  resumed_short c = refused_lent c.room _

  hosting_short : (cs : List Call) → hosting inputs b turned cs ≡ turned
  hosting_short [] = refl
  hosting_short (c ∷ cs) = ap (λ x. hosting inputs b x cs) (resumed_short c) ∙ hosting_short cs

  -- "1", and nothing is written
  pub host_short : (calls : List Code.Call) → host_at inputs b cells path report calls regs ≡ turned
  unfolding host_at run_outcome
  host_short calls =
      let cs = later_calls (length path) calls in
      ap (λ x. hosting inputs b x cs) (refused_lent (first_call (length path) calls).room _) ∙ hosting_short cs

-- ---- one reply of the machine

module _ (r : Reply) (cells cells' : List ℕ) (regs' : List Float) (part path : List ℕ) (number room : ℕ)
    (hn : number ≡ number_of r.answer)
    (hs : state_in cells' ≡ r.state)
    (hc : is_refused r.answer ≡ false → cells' ≡ written r cells)
    (hq : is_refused r.answer ≡ false → r.state.pending ≡ question_of r.answer)
    (hr : regs' ≡ r.registers)
    (hp : part ≡ placed (place_of r.answer) (take room path)) where
  follows : Follows (noted room r path) number cells' regs' (part ++ drop room path)
  follows =
      record {
        shows =
            record {
              number_shown = hn;
              state_shown = hs;
              value_shown = λ f. ap (λ (l : List ℕ). get_or l 15 0) (hc f) ∙ written_value r cells;
              question_shown = λ f. ap (λ (l : List ℕ). take 3 (drop 11 l)) (hc f) ∙ written_question r cells ∙ ap question_cells (hq f);
              count_shown = λ f. ap (λ (l : List ℕ). get_or l 14 0) (hc f) ∙ written_count r cells;
            };
        registers_are = hr;
        path_is = ap (λ (l : List ℕ). l ++ drop room path) hp;
      }

same_short : (cells cells' report report' : List ℕ) → length cells' ≡ length cells → length report' ≡ length report → short cells' report' ≡ short cells report
same_short cells cells' report report' ec et = ap₂ (λ (x y : ℕ). ltb y report_length || ltb x state_length) ec et

after_is : (r : Reply) (cells cells' : List ℕ) → cells' ≡ after r cells → is_refused r.answer ≡ false → cells' ≡ written r cells
after_is r cells cells' e f = e ∙ rw f

module _ (inputs : List Float) (b : List ℕ) (k : ℕ) (regs regs' : List Float) (cells cells' path part report report' : List ℕ) (number room : ℕ)
    (enough : short cells report ≡ false) (same : length cells' ≡ length cells) (alike : length report' ≡ length report) where
  pub run_follows : (let r = run_at inputs b (length (take room path)) k regs in
      Leaves (run_outcome inputs b k regs cells (take room path) report) number cells' regs' part report' → Carries cells' report' r
      → Follows (noted room r path) number cells' regs' (part ++ drop room path))
  unfolding run_outcome
  run_follows l c =
      let r = run_at inputs b (length (take room path)) k regs in
      let h = subst (λ (o : Outcome). Leaves o number cells' regs' part report') (sym (roomy (short cells report) (untouched cells regs (take room path) report) _ enough)) l in
      follows r cells cells' regs' part path number room h.0 (c (same_short cells cells' report report' same alike ∙ enough)) (λ f. h.1) (λ f. (run_asks inputs b (length (take room path)) k regs).1) h.2 h.3

  pub resume_follows : (g : Option Float) → (let r = resume_at inputs b (length (take room path)) k g (state_in cells) regs in
      Leaves (resume_outcome inputs b k g regs cells (take room path) report) number cells' regs' part report' → Carries cells' report' r
      → Follows (noted room r path) number cells' regs' (part ++ drop room path))
  unfolding resume_outcome
  resume_follows g l c =
      let r = resume_at inputs b (length (take room path)) k g (state_in cells) regs in
      let h = subst (λ (o : Outcome). Leaves o number cells' regs' part report') (sym (roomy (short cells report) (untouched cells regs (take room path) report) _ enough)) l in
      follows r cells cells' regs' part path number room h.0 (c (same_short cells cells' report report' same alike ∙ enough)) (after_is r cells cells' h.1)
      (λ f. (resume_asks inputs b (length (take room path)) k g (state_in cells) regs f).1) h.2 h.3

-- ---- the end

-- what is said of the last call of a list
pub record Ended (inputs : List Float) (b : List ℕ) (calls : List Code.Call) (regs : List Float) (cells path report : List ℕ) (number : ℕ) (cells' : List ℕ) (regs' : List Float) (path' report' : List ℕ) : Type 0 where
  pub outcome : Leaves (host_at inputs b cells path report calls regs) number cells' regs' path' report'
  pub reply : short cells report ≡ false → Follows (play_at inputs b path calls regs) number cells' regs' path'

-- ---- the machine's list

module _ (inputs : List Float) (b : List ℕ) (n : ℕ) (rest : List Code.Call) where
  -- a reply that the calls so far came to, from which the calls from the i-th of the rest on come to the last one
  pub record Following (last : Played) (number : ℕ) (cells : List ℕ) (regs : List Float) (path : List ℕ) (i : ℕ) : Type 0 where
    pub reached : Played
    pub leads : playing inputs (program_at b) reached (map (call_of n) (drop i rest)) ≡ last
    pub shown : Follows reached number cells regs path

  pub following_start : (first : Code.Call) (regs regs' : List Float) (cells cells' path part : List ℕ) (number room : ℕ) (calls : List Code.Call)
      → n ≡ length path → room ≡ min first.room n → room ≤ length path
      → first_call n calls ≡ record { room = min first.room n; budget = first.budget; given = none } → later_calls n calls ≡ map (call_of n) rest
      → Follows (noted room (run_at inputs b (length (take room path)) first.budget regs) path) number cells' regs' (part ++ drop room path)
      → Following (play_at inputs b path calls regs) number cells' regs' (part ++ drop room path) 0
  unfolding play_at run_at
  following_start first regs regs' cells cells' path part number room calls en er l k m f =
      record {
        reached = noted room (run_at inputs b (length (take room path)) first.budget regs) path;
        leads = rw (length-take-le room path l, er, ← en, k, m);
        shown = f;
      }

  pub following_step : (c : Code.Call) (last : Played) (regs regs' : List Float) (cells cells' path part : List ℕ) (number number' i room : ℕ)
      → drop i rest ≡ c ∷ drop (i + 1) rest → room ≡ min c.room n → room ≤ length path
      → (F : Following last number cells regs path i)
      → Follows (noted room (resume_at inputs b (length (take room path)) c.budget (supplied_of c.supplied) (state_in cells) regs) path) number' cells' regs' (part ++ drop room path)
      → Following last number' cells' regs' (part ++ drop room path) (i + 1)
  unfolding resume_at
  following_step c last regs regs' cells cells' path part number number' i room d er l F f =
      let x = F.reached in
      let k = c.budget in
      let g = supplied_of c.supplied in
      let call : Call = record { room = room; budget = k; given = g } in
      let y = noted room (resume binary64 inputs (program_at b) call x.reply.state x.reply.registers) x.path in
      let e : noted room (resume_at inputs b (length (take room path)) k g (state_in cells) regs) path ≡ y =
      ap (λ (m : ℕ). noted room (resume_at inputs b m k g (state_in cells) regs) path) (length-take-le room path l)
      ∙ ap (λ (s : State). noted room (resume_at inputs b room k g s regs) path) F.shown.shows.state_shown
      ∙ ap (λ (w : List Float). noted room (resume_at inputs b room k g x.reply.state w) path) F.shown.registers_are
      ∙ ap (λ (q : List ℕ). noted room (resume_at inputs b room k g x.reply.state x.reply.registers) q) F.shown.path_is in
      let s : playing inputs (program_at b) x (map (call_of n) (drop i rest)) ≡ playing inputs (program_at b) y (map (call_of n) (drop (i + 1) rest)) =
      ap (λ (cs : List Code.Call). playing inputs (program_at b) x (map (call_of n) cs)) d ∙ rw (← er) in
      record {
        reached = y;
        leads = sym s ∙ F.leads;
        shown = subst (λ (w : Played). Follows w number' cells' regs' (part ++ drop room path)) e f;
      }

  pub following_end : (last : Played) (number : ℕ) (cells : List ℕ) (regs : List Float) (path : List ℕ) (i : ℕ) → length rest ≤ i
      → Following last number cells regs path i → Follows last number cells regs path
  following_end last number cells regs path i h F =
      let e : F.reached ≡ last = sym (rw (drop_all i rest h)) ∙ F.leads in
      subst (λ (w : Played). Follows w number cells regs path) e F.shown

  -- ---- the invariant: the calls left from here come to what the calls left after the run come to

  pub record Inv (number₀ : ℕ) (cells₀ : List ℕ) (regs₀ : List Float) (path₀ report₀ : List ℕ) (number : ℕ) (cells : List ℕ) (regs : List Float) (path report : List ℕ) (i : ℕ) : Type 0 where
    pub registers_long : length regs ≡ length regs₀
    pub path_long : length path ≡ n
    pub cells_long : length cells ≡ length cells₀
    pub report_long : length report ≡ length report₀
    pub hosts : hosted_at inputs b n rest (left number cells regs path report) i ≡ hosted_at inputs b n rest (left number₀ cells₀ regs₀ path₀ report₀) 0
    pub plays : short cells₀ report₀ ≡ false → (last : Played) → Following last number₀ cells₀ regs₀ path₀ 0 → Following last number cells regs path i

  pub inv_start : (number : ℕ) (cells : List ℕ) (regs : List Float) (path report : List ℕ) → length path ≡ n
      → Inv number cells regs path report number cells regs path report 0
  inv_start number cells regs path report e =
      record { registers_long = refl; path_long = e; cells_long = refl; report_long = refl; hosts = refl; plays = λ h last F. F }

  pub inv_step : (number₀ : ℕ) (cells₀ : List ℕ) (regs₀ : List Float) (path₀ report₀ : List ℕ) (number : ℕ) (cells : List ℕ) (regs : List Float) (path report : List ℕ) (i : ℕ)
      → Inv number₀ cells₀ regs₀ path₀ report₀ number cells regs path report i
      → (c : Code.Call) (number' : ℕ) (cells' : List ℕ) (regs' : List Float) (part report' : List ℕ) (room : ℕ)
      → drop i rest ≡ c ∷ drop (i + 1) rest → room ≡ min c.room n → room ≤ length path
      → Leaves (resume_outcome inputs b c.budget (supplied_of c.supplied) regs cells (take room path) report) number' cells' regs' part report'
      → Carries cells' report' (resume_at inputs b (length (take room path)) c.budget (supplied_of c.supplied) (state_in cells) regs)
      → length cells' ≡ length cells → length regs' ≡ length regs → length part ≡ length (take room path) → length report' ≡ length report
      → Inv number₀ cells₀ regs₀ path₀ report₀ number' cells' regs' (part ++ drop room path) report' (i + 1)
  inv_step number₀ cells₀ regs₀ path₀ report₀ number cells regs path report i I c number' cells' regs' part report' room d er l L K ec eregs ep et =
      record {
        registers_long = eregs ∙ I.registers_long;
        path_long = again_long path part room l ep ∙ I.path_long;
        cells_long = ec ∙ I.cells_long;
        report_long = et ∙ I.report_long;
        hosts = sym (hosted_step inputs b n rest c regs regs' cells cells' path part report report' number number' i room d er L) ∙ I.hosts;
        plays = λ enough last F.
            following_step c last regs regs' cells cells' path part number number' i room d er l (I.plays enough last F)
            (resume_follows inputs b c.budget regs regs' cells cells' path part report report' number' room
            (same_short cells₀ cells report₀ report I.cells_long I.report_long ∙ enough) ec et (supplied_of c.supplied) L K);
      }

  -- the whole list, from the run's outcome and the invariant after the last call
  pub inv_end : (first : Code.Call) (calls : List Code.Call) (regs regs₁ regs' : List Float) (cells cells₁ cells' path part path' report report₁ report' : List ℕ) (number₁ number room i : ℕ)
      → n ≡ length path → room ≡ min first.room n → room ≤ length path
      → first_call n calls ≡ record { room = min first.room n; budget = first.budget; given = none } → later_calls n calls ≡ map (call_of n) rest
      → Leaves (run_outcome inputs b first.budget regs cells (take room path) report) number₁ cells₁ regs₁ part report₁
      → Carries cells₁ report₁ (run_at inputs b (length (take room path)) first.budget regs) → length cells₁ ≡ length cells → length report₁ ≡ length report
      → length rest ≤ i → Inv number₁ cells₁ regs₁ (part ++ drop room path) report₁ number cells' regs' path' report' i
      → Ended inputs b calls regs cells path report number cells' regs' path' report'
  inv_end first calls regs regs₁ regs' cells cells₁ cells' path part path' report report₁ report' number₁ number room i en er l k m L K ec et done I =
      let e : left number cells' regs' path' report' ≡ host_at inputs b cells path report calls regs =
      sym (hosted_end inputs b n rest (left number cells' regs' path' report') i done) ∙ I.hosts
      ∙ hosted_start inputs b n rest first regs regs₁ cells cells₁ path part report report₁ number₁ room calls en er k m L in
      record {
        outcome = subst (λ (o : Outcome). Leaves o number cells' regs' path' report') e (refl, refl, refl, refl, refl);
        reply =
            λ enough.
            let last = play_at inputs b path calls regs in
            following_end last number cells' regs' path' i done
            (I.plays (same_short cells cells₁ report report₁ ec et ∙ enough) last
            (following_start first regs regs₁ cells cells₁ path part number₁ room calls en er l k m
            (run_follows inputs b first.budget regs regs₁ cells cells₁ path part report report₁ number₁ room enough ec et L K)));
      }
