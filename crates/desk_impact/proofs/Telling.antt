-- Whether two verdicts say something else, or come to something else, as tests; and what lists of such ranges tell.
use Rattle.std.proofs.Common.{◌≡◌, ◌≢◌, ◌<◌, ◌^◌, ℕ, not, Bool, true, false, cond, List, [], ◌∷◌, map, sym, ◌∙◌, ap, subst, refl, inl, inr, ◌⊎◌}
use Rattle.std.specs.Prelude.{Option, Some, None, Result, Ok, Err, filter, find}
use Rattle.std.specs.Bool.{Decides}
use Rattle.std.specs.Option.{option_map}
use Rattle.std.proofs.lemmas.Bool.{cases_Bool, cases_eq, true≢false, false_from_ne_true}
use Rattle.std.proofs.lemmas.List.Elements.{filter_agree}
use Rattle.std.proofs.lemmas.Slice.Eq.{bytes_eq-Decides, slice_eq-Decides}
use Rattle.desk_text.specs.Path.{same_path}
use Rattle.desk_exports.specs.declared.entry.Terms.{Terms}
use Rattle.desk_policy.specs.Policy.{Content}
use Rattle.desk_policy.specs.Verdict.{Grant}
use Rattle.desk_policy.specs.declared.verdict.Denial.{Denial}
use Rattle.desk_policy.specs.declared.verdict.Denial.TheVariants.{NoFileSystem, NoLine, NotListed}
use Rattle.desk_who.specs.Runs.{AreRuns, AreRunsWithValue, Run, RunsAreUnique, RunsPassTests, RunsTellValues, holds, passing}
use Rattle.desk_who.specs.Who.{VerdictsAreDiscrete}
use Rattle.desk_impact.specs.Impact.{AreThoseThat, Grants, HasNoFileSystem, HasNoLine, ImpactsAreUnique, ImpactsTellChanges, ImpactsTellEffects, IsImpact, IsNotListed, Matters, SayOtherwise, Saying, TellsWhere, ThoseThatMatter, TwoVerdicts, effect, saying}

abbrev pub IsSameOrNot : {A : Type 0} → A → A → Type 0
IsSameOrNot x y = (x ≡ y) ⊎ (x ≢ y)

-- ---- tests
is_apart : {A : Type 0} (x y : A) → IsSameOrNot x y → Bool
is_apart x y (inl is) = false
is_apart x y (inr apart) = true

apart_decides : {A : Type 0} (x y : A) (compared : IsSameOrNot x y) → Decides (is_apart x y compared) (x ≢ y)
unfolding is_apart
apart_decides x y (inl is) = (λ e. absurd (true≢false (sym e)), λ apart. absurd (apart is))
apart_decides x y (inr apart) = (λ e. apart, λ _. refl)

pub same_test : {P : Type 0} (a b : Bool) → Decides a P → Decides b P → a ≡ b
same_test a b d e =
    elim (cases_Bool a) as (λ _. a ≡ b) [
      | inl is ↦ is ∙ sym (e.1 (d.0 is))
      | inr not ↦ not ∙ sym (false_from_ne_true b (λ is. true≢false (sym (d.1 (e.0 is)) ∙ not)))
    ]

-- a test that fails where another passes
opposite : {P : Type 0} (b : Bool) → Decides b P → Decides (not b) (P → ⊥)
opposite true d = (λ e. absurd (true≢false (sym e)), λ apart. absurd (apart (d.0 refl)))
opposite false d = (λ e p. true≢false (sym (d.1 p)), λ apart. refl)

-- a saying by what it tells apart
granted : Saying → Result Grant Denial
granted (Grants line terms) = Ok (record { fs = record { 0 = 0 }; line = line; terms = terms })
granted HasNoFileSystem = Err NoFileSystem
granted (HasNoLine mount) = Err NoFileSystem
granted (IsNotListed mount line) = Err NoFileSystem

two_paths : (x y : List (List ℕ)) → IsSameOrNot x y
two_paths x y =
    let decides = slice_eq-Decides bytes_eq-Decides x y (same_path x y) refl in
    elim (cases_Bool (same_path x y)) [
      | inl is ↦ inl (decides.0 is)
      | inr not ↦ inr (λ e. true≢false (sym (decides.1 e) ∙ not))
    ]

two_mounts : (x y : Option (List (List ℕ))) → IsSameOrNot x y
two_mounts None None = inl refl
two_mounts None (Some y) = inr (λ e. cc)
two_mounts (Some x) None = inr (λ e. cc)
two_mounts (Some x) (Some y) = elim (two_paths x y) as (λ _. IsSameOrNot (Some x) (Some y)) [ inl is ↦ inl (ap Some is) | inr apart ↦ inr (λ e. apart (cc)) ]

module _ (compare : VerdictsAreDiscrete) where
  abbrev grant_of : ℕ → Terms → Result Grant Denial
  grant_of line terms = Ok (record { fs = record { 0 = 0 }; line = line; terms = terms })

  two_effects : (x y : Option Terms) → IsSameOrNot x y
  two_effects None None = inl refl
  two_effects None (Some y) = inr (λ e. cc)
  two_effects (Some x) None = inr (λ e. cc)
  two_effects (Some x) (Some y) =
      elim (compare (grant_of 0 x) (grant_of 0 y)) as (λ _. IsSameOrNot (Some x) (Some y)) [
        | inl is ↦ inl (ap effect is)
        | inr apart ↦ inr (λ e. apart (ap (λ (terms : Option Terms). elim terms [ None ↦ grant_of 0 x | Some one ↦ grant_of 0 one ]) e))
      ]

  -- a range at which the mount changes
  pub matters : TwoVerdicts → Bool
  matters verdicts = is_apart (effect verdicts.after) (effect verdicts.before) (two_effects (effect verdicts.after) (effect verdicts.before))

  pub matters_decides : (verdicts : TwoVerdicts) → Decides (matters verdicts) (Matters verdicts)
  unfolding matters
  matters_decides verdicts = apart_decides (effect verdicts.after) (effect verdicts.before) (two_effects (effect verdicts.after) (effect verdicts.before))

  two_sayings : (x y : Saying) → IsSameOrNot x y
  unfolding granted
  two_sayings (Grants line terms) (Grants number others) =
      elim (compare (grant_of line terms) (grant_of number others)) as (λ _. IsSameOrNot (Grants line terms) (Grants number others)) [
        | inl is ↦ inl (ap (saying (record { table = []; rows = []; warnings = []; origins = [] })) is)
        | inr apart ↦ inr (λ e. apart (ap granted e))
      ]
  two_sayings (Grants line terms) HasNoFileSystem = inr (λ e. cc)
  two_sayings (Grants line terms) (HasNoLine mount) = inr (λ e. cc)
  two_sayings (Grants line terms) (IsNotListed mount number) = inr (λ e. cc)
  two_sayings HasNoFileSystem (Grants line terms) = inr (λ e. cc)
  two_sayings HasNoFileSystem HasNoFileSystem = inl refl
  two_sayings HasNoFileSystem (HasNoLine mount) = inr (λ e. cc)
  two_sayings HasNoFileSystem (IsNotListed mount number) = inr (λ e. cc)
  two_sayings (HasNoLine mount) (Grants line terms) = inr (λ e. cc)
  two_sayings (HasNoLine mount) HasNoFileSystem = inr (λ e. cc)
  two_sayings (HasNoLine mount) (HasNoLine other) = elim (two_mounts mount other) as (λ _. IsSameOrNot (HasNoLine mount) (HasNoLine other)) [ inl is ↦ inl (ap HasNoLine is) | inr apart ↦ inr (λ e. apart (cc)) ]
  two_sayings (HasNoLine mount) (IsNotListed other number) = inr (λ e. cc)
  two_sayings (IsNotListed mount line) (Grants number terms) = inr (λ e. cc)
  two_sayings (IsNotListed mount line) HasNoFileSystem = inr (λ e. cc)
  two_sayings (IsNotListed mount line) (HasNoLine other) = inr (λ e. cc)
  two_sayings (IsNotListed mount line) (IsNotListed other number) =
      elim (two_mounts mount other) as (λ _. IsSameOrNot (IsNotListed mount line) (IsNotListed other number)) [
        | inl is ↦ elim (cases_eq line number) as (λ _. IsSameOrNot (IsNotListed mount line) (IsNotListed other number)) [
          | inl same ↦ inl (ap (λ m. IsNotListed m line) is ∙ ap (IsNotListed other) same)
          | inr apart ↦ inr (λ e. apart (cc))
        ]
        | inr apart ↦ inr (λ e. apart (cc))
      ]

  -- two verdicts by which the two policies say something else
  module _ (before after : Content) where
    pub says_otherwise : TwoVerdicts → Bool
    says_otherwise verdicts = is_apart (saying after verdicts.after) (saying before verdicts.before) (two_sayings (saying after verdicts.after) (saying before verdicts.before))

    pub says_otherwise_decides : (verdicts : TwoVerdicts) → Decides (says_otherwise verdicts) (SayOtherwise before after verdicts)
    unfolding says_otherwise
    says_otherwise_decides verdicts = apart_decides (saying after verdicts.after) (saying before verdicts.before) (two_sayings (saying after verdicts.after) (saying before verdicts.before))

    -- a test whether verdicts say the same tells so
    pub says_otherwise_is : (verdicts : TwoVerdicts) (b : Bool) → Decides b (saying after verdicts.after ≡ saying before verdicts.before) → not b ≡ says_otherwise verdicts
    says_otherwise_is verdicts b d = same_test (not b) (says_otherwise verdicts) (opposite b d) (says_otherwise_decides verdicts)

  -- a test whether verdicts come to the same tells so
  pub matters_is : (verdicts : TwoVerdicts) (b : Bool) → Decides b (effect verdicts.after ≡ effect verdicts.before) → not b ≡ matters verdicts
  matters_is verdicts b d = same_test (not b) (matters verdicts) (opposite b d) (matters_decides verdicts)

  pub two_pairs : (x y : TwoVerdicts) → IsSameOrNot x y
  two_pairs x y =
      elim (compare x.before y.before) as (λ _. IsSameOrNot x y) [
        | inl before ↦ elim (compare x.after y.after) as (λ _. IsSameOrNot x y) [
          | inl after ↦ inl (ap (λ v. record { before = v; after = x.after }) before ∙ ap (λ v. record { before = y.before; after = v }) after)
          | inr apart ↦ inr (λ e. apart (ap (λ v. v.after) e))
        ]
        | inr apart ↦ inr (λ e. apart (ap (λ v. v.before) e))
      ]

-- ---- verdicts that say the same come to the same
said_effect : Saying → Option Terms
said_effect (Grants line terms) = Some terms
said_effect HasNoFileSystem = None
said_effect (HasNoLine mount) = None
said_effect (IsNotListed mount line) = None

effect_said : (content : Content) (verdict : Result Grant Denial) → said_effect (saying content verdict) ≡ effect verdict
unfolding said_effect
effect_said content (Ok grant) = refl
effect_said content (Err NoFileSystem) = refl
effect_said content (Err (NoLine fs)) = refl
effect_said content (Err (NotListed fs line)) = refl

otherwise_if_it_matters : (before after : Content) (verdicts : TwoVerdicts) → Matters verdicts → SayOtherwise before after verdicts
otherwise_if_it_matters before after verdicts m same =
    m (sym (effect_said after verdicts.after) ∙ ap said_effect same ∙ effect_said before verdicts.before)

-- ---- lists of ranges that pass a test
-- of what passes a weaker test, what passes a stronger one
filter_twice : {X : Type 0} (p q : X → Bool) → ((x : X) → q x ≡ true → p x ≡ true) → (xs : List X) → filter q (filter p xs) ≡ filter q xs
filter_twice p q weaker [] = refl
filter_twice p q weaker (x ∷ xs) =
    let rest = filter_twice p q weaker xs in
    elim (cases_Bool (p x)) as (λ _. filter q (filter p (x ∷ xs)) ≡ filter q (x ∷ xs)) [
      | inl is ↦ ap (λ b. filter q (cond b (x ∷ filter p xs) (filter p xs))) is ∙ ap (λ ys. cond (q x) (x ∷ ys) ys) rest
      | inr not ↦
          let fails : q x ≡ false = false_from_ne_true (q x) (λ is. true≢false (sym (weaker x is) ∙ not)) in
          ap (λ b. filter q (cond b (x ∷ filter p xs) (filter p xs))) not ∙ rest ∙ ap (λ b. cond b (x ∷ filter q xs) (filter q xs)) (sym fails)
    ]

-- what is kept of lent values is what is kept of them by value
pub map-filter : {X Y : Type 0} (f : X → Y) (test : Y → Bool) (xs : List X) → map f (filter (λ x. test (f x)) xs) ≡ filter test (map f xs)
map-filter f test [] = refl
map-filter f test (x ∷ xs) =
    let rest = map-filter f test xs in
    elim (cases_Bool (test (f x))) as (λ _. map f (filter (λ y. test (f y)) (x ∷ xs)) ≡ filter test (map f (x ∷ xs))) [
      | inl is ↦ rw is (ap (λ ys. f x ∷ ys) rest)
      | inr not ↦ rw not rest
    ]

-- ---- laws
module _ (compare : VerdictsAreDiscrete) (pass : RunsPassTests TwoVerdicts) where
  -- of ranges of two verdicts, those of which this holds are the runs that pass a test that decides on it
  told_by : (P : TwoVerdicts → Type 0) (test : TwoVerdicts → Bool) (decides : (verdicts : TwoVerdicts) → Decides (test verdicts) (P verdicts)) (verdicts : ℕ → TwoVerdicts)
      (whole changes : List (Run TwoVerdicts)) → AreRuns verdicts whole → AreThoseThat (λ (run : Run TwoVerdicts). P run.value) whole changes
      → AreRunsWithValue (λ address. passing test (verdicts address)) changes
  told_by P test decides verdicts whole changes runs chosen =
      subst (AreRunsWithValue (λ address. passing test (verdicts address)))
      (sym (chosen.are ∙ filter_agree chosen.test (λ run. test run.value) (λ run. same_test (chosen.test run) (test run.value) (chosen.decides run) (decides run.value)) whole))
      (pass (two_pairs compare) test verdicts whole runs)

  -- the changes are the runs at which the policies say something else
  pub told_changes : (before after : Content) (verdicts : ℕ → TwoVerdicts) (changes : List (Run TwoVerdicts)) → IsImpact before after verdicts changes
      → AreRunsWithValue (λ address. passing (says_otherwise compare before after) (verdicts address)) changes
  told_changes before after verdicts changes impact =
      told_by (SayOtherwise before after) (says_otherwise compare before after) (says_otherwise_decides compare before after) verdicts impact.whole changes impact.runs impact.chosen

  told_effects : (before after : Content) (verdicts : ℕ → TwoVerdicts) (changes mattering : List (Run TwoVerdicts)) → IsImpact before after verdicts changes → ThoseThatMatter changes mattering
      → AreRunsWithValue (λ address. passing (matters compare) (verdicts address)) mattering
  told_effects before after verdicts changes mattering impact those =
      told_by Matters (matters compare) (matters_decides compare) verdicts impact.whole mattering impact.runs
      (record {
        test = those.test;
        decides = those.decides;
        are = those.are ∙ ap (filter those.test) impact.chosen.are
            ∙ filter_twice impact.chosen.test those.test (λ run is. (impact.chosen.decides run).1 (otherwise_if_it_matters before after run.value ((those.decides run).0 is))) impact.whole;
      })

  module _ (tell : RunsTellValues TwoVerdicts) where
    nothing : (found : Option (Run TwoVerdicts)) → option_map (λ (run : Run TwoVerdicts). run.value) found ≡ None → found ≡ None
    nothing None is = refl
    nothing (Some run) is = absurd (let none : Some run.value ≡ None = is in cc)

    -- ranges whose values pass a test that decides on P tell where P holds
    tells_where : (P : TwoVerdicts → Type 0) (test : TwoVerdicts → Bool) (decides : (verdicts : TwoVerdicts) → Decides (test verdicts) (P verdicts)) (verdicts : ℕ → TwoVerdicts)
        (changes : List (Run TwoVerdicts)) → AreRunsWithValue (λ address. passing test (verdicts address)) changes → (address : ℕ) → address < 2 ^ 32 → TellsWhere P verdicts changes address
    tells_where P test decides verdicts changes are address fits =
        let found = (tell (λ a. passing test (verdicts a)) changes are).1 address fits in
        record {
          told = λ is. found ∙ ap (λ b. cond b (Some (verdicts address)) None) ((decides (verdicts address)).1 is);
          silent = λ none. nothing (find (holds address) changes)
              (found ∙ ap (λ b. cond b (Some (verdicts address)) None) (false_from_ne_true _ (λ is. none ((decides (verdicts address)).0 is))));
        }

    pub impacts_tell_changes : ImpactsTellChanges
    impacts_tell_changes before after verdicts changes impact =
        tells_where (SayOtherwise before after) (says_otherwise compare before after) (says_otherwise_decides compare before after) verdicts changes (told_changes before after verdicts changes impact)

    pub impacts_tell_effects : ImpactsTellEffects
    impacts_tell_effects before after verdicts changes mattering impact those =
        tells_where Matters (matters compare) (matters_decides compare) verdicts mattering (told_effects before after verdicts changes mattering impact those)

pub impacts_are_unique : RunsAreUnique TwoVerdicts → ImpactsAreUnique
impacts_are_unique unique before after verdicts changes other impact impact' =
    impact'.chosen.are ∙ ap (filter impact'.chosen.test) (unique verdicts impact.whole impact'.whole impact.runs impact'.runs)
    ∙ filter_agree impact'.chosen.test impact.chosen.test (λ run. same_test (impact'.chosen.test run) (impact.chosen.test run) (impact'.chosen.decides run) (impact.chosen.decides run)) impact.whole
    ∙ sym impact.chosen.are
