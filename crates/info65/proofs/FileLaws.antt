-- The laws of information files.
use Rattle.std.proofs.Common.{◌≡◌, ◌∙◌, ◌≤◌, ℕ, List, [], ◌∷◌, false, refl, ap, sym, inl, inr, length, arith}
use Rattle.std.specs.Prelude.{Result, Ok, Err, ◌⊎◌, nat_lt}
use Rattle.std.proofs.lemmas.Bool.{ltb-false}
use Rattle.std.proofs.lemmas.Bool.Decides.{nat_tests}
use Rattle.info65.specs.Words.{AcceptsFiles, Expected, GroupView, InfoFault, InfoView, IsFaultless, IsInformation, IsOfEnd, IsOfToken, OptionsView, Stage, RefusesFirst, State, TokenView, closed, fault, finish, groups_of, info_of, information, outside, read, read_from, step, tokens_of, ◌>>=◌}
use Rattle.info65.proofs.Accepting.{accepted_groups, groups_accepted}
use Rattle.info65.proofs.Cases.{by_result, by_test}

said : (o : OptionsView) (bytes : List ℕ) (info : InfoView) (r : Result (List GroupView) InfoFault) → length bytes ≤ 1_048_576 → groups_of o bytes ≡ r → (r >>= λ groups. Ok (info_of o groups)) ≡ Ok info → IsInformation o bytes info
unfolding groups_of read
said o bytes info (Ok groups) small is e =
    let a = groups_accepted o (tokens_of 1 bytes).tokens (tokens_of 1 bytes).ending groups is in
    record { small = small; whole = a.0; groups = groups; accepts = a.1; says = cc }
said o bytes info (Err f) small is e = absurd cc

accepted : (o : OptionsView) (bytes : List ℕ) (info : InfoView) → information o bytes ≡ Ok info → IsInformation o bytes info
unfolding information
accepted o bytes info e =
    by_test (nat_lt 1_048_576 (length bytes))
    (λ h. let f : ◌≡◌ {A = Result InfoView InfoFault} (Err _) (Ok info) = rw h at e in absurd cc)
    (λ h. said o bytes info (groups_of o bytes) (ltb-false 1_048_576 (length bytes) h) refl (rw h at e))

accepts : (o : OptionsView) (bytes : List ℕ) (info : InfoView) → IsInformation o bytes info → information o bytes ≡ Ok info
unfolding information groups_of read
accepts o bytes info i =
    let small : nat_lt 1_048_576 (length bytes) ≡ false = grind (arith, nat_tests, i.small) in
    rw (small, accepted_groups o (tokens_of 1 bytes).tokens (tokens_of 1 bytes).ending i.groups i.whole i.accepts) (ap (λ x. Ok x) (sym i.says))

pub accepts_files : AcceptsFiles
accepts_files o bytes info = (accepted o bytes info, accepts o bytes info)

-- ---- the first fault

none_faultless : (o : OptionsView) (p : Stage) (before : List GroupView) → IsFaultless o p before []
unfolding read_from finish
none_faultless o outside before line = inl (before, refl)
none_faultless o closed before line = inl (before, refl)
none_faultless o _ before line = inr refl

more_faultless : (o : OptionsView) (p : Stage) (before : List GroupView) (t : TokenView) (ts : List TokenView) (q : State) → step o p before t ≡ Ok q → IsFaultless o q.0 q.1 ts → IsFaultless o p before (t ∷ ts)
unfolding read_from
more_faultless o p before t ts q e h line = rw e (h line)

finish_fault : (p : Stage) (before : List GroupView) (ending : Result ℕ InfoFault) (e : InfoFault) → finish p before ending ≡ Err e → ((line : ℕ) × (ending ≡ Ok line) × (e ≡ fault line Expected)) ⊎ (ending ≡ Err e)
unfolding finish
finish_fault outside before (Ok line) e h = absurd cc
finish_fault closed before (Ok line) e h = absurd cc
finish_fault _ before (Ok line) e h = inl (line, refl, cc)
finish_fault outside before (Err f) e h = let same : f ≡ e = cc in inr (ap (λ x. Err x) same)
finish_fault closed before (Err f) e h = let same : f ≡ e = cc in inr (ap (λ x. Err x) same)
finish_fault _ before (Err f) e h = let same : f ≡ e = cc in inr (ap (λ x. Err x) same)

first : (o : OptionsView) (p : Stage) (before : List GroupView) (ts : List TokenView) (ending : Result ℕ InfoFault) (e : InfoFault) → read_from o p before ts ending ≡ Err e → IsOfToken o p before ts e ⊎ IsOfEnd o p before ts ending e
unfolding read_from
first o p before [] ending e h = inr (record { faultless = none_faultless o p before; ends = finish_fault p before ending e h })
first o p before (t ∷ ts) ending e h =
    by_result (step o p before t)
    (λ q g. let i : read_from o q.0 q.1 ts ending ≡ Err e = rw g at h in
    elim (first o q.0 q.1 ts ending e i) [
      | inl x ↦ inl (record {
        front = t ∷ x.front;
        token = x.token;
        more = x.more;
        parts = ap (λ (r : List TokenView). t ∷ r) x.parts;
        faultless = more_faultless o p before t x.front q g x.faultless;
        place = x.place;
        groups = x.groups;
        reached = (q, g, x.reached);
        is = x.is;
        refuses = λ others end. rw g (x.refuses others end);
      })
      | inr x ↦ inr (record { faultless = more_faultless o p before t ts q g x.faultless; ends = x.ends })
    ])
    (λ f g. let i : ◌≡◌ {A = Result (List GroupView) InfoFault} (Err f) (Err e) = rw g at h in
    inl (record {
      front = [];
      token = t;
      more = ts;
      parts = refl;
      faultless = none_faultless o p before;
      place = p;
      groups = before;
      reached = (refl, refl);
      is = let same : f ≡ e = cc in g ∙ ap (λ x. Err x) same;
      refuses = λ others end. rw g i;
    }))

pub refuses_first : RefusesFirst
unfolding information groups_of read
refuses_first o bytes e h = grind (arith, by_test, first)
