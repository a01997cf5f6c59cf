-- Files that are read in turn, some by one function and the rest after it.
use Rattle.std.proofs.Common.{◌≡◌, ◌⊎◌, ◌∙◌, ◌++◌, ℕ, Bool, false, List, [], ◌∷◌, Option, Result, Ok, Err, inl, inr, map, refl, subst, sym}
use Rattle.desk_findings.specs.declared.check_faults.Source.{Source}
use Rattle.cli_files.specs.Files.{ReadsFiles, ReadsInTurn, ReadsUnless, name_input_twice}
use Rattle.cli_output.specs.declared.failure.Failure.{Failure}
use Rattle.cli_output.specs.declared.failure.Failure.TheVariants.{Memory}
use Rattle.cli_sources.specs.InTurn.{ReadsTo}
use Rattle.cli_sources.specs.TableFiles.{AreRead, given_path, no_origins, origins_in, paths_in, texts_in}
use Rattle.cli_sources.specs.WholeFiles.{LacksMemory}

-- all have texts
pub reads_on : (files rest : List (List ℕ × Option (List ℕ))) (known left : Option (List ℕ)) (texts more : List (List ℕ)) → ReadsTo files known texts left → ReadsInTurn rest left (Ok more) → ReadsInTurn (files ++ rest) known (Ok (texts ++ more))
reads_on [] rest known left [] more is reads = subst (λ (k : Option (List ℕ)). ReadsInTurn rest k (Ok more)) is reads
reads_on [] rest known left (text ∷ texts) more none reads = absurd none
reads_on (file ∷ files) rest known left [] more none reads = absurd none
reads_on (file ∷ files) rest known left (text ∷ texts) more to reads =
    (to.0, (to.1.0, (to.1.1.0, reads_on files rest to.1.0 left texts more to.1.1.1 reads)))

-- what is left does not matter
pub turned : (files : List (List ℕ × Option (List ℕ))) (known left : Option (List ℕ)) (texts : List (List ℕ)) → ReadsTo files known texts left → ReadsInTurn files known (Ok texts)
turned [] known left [] is = refl
turned [] known left (text ∷ texts) none = absurd none
turned (file ∷ files) known left [] none = absurd none
turned (file ∷ files) known left (text ∷ texts) to = (to.0, (to.1.0, (to.1.1.0, turned files to.1.0 left texts to.1.1.1)))

-- one of the rest has no text
pub fails_on : (files rest : List (List ℕ × Option (List ℕ))) (known left : Option (List ℕ)) (texts : List (List ℕ)) (failure : Failure) → ReadsTo files known texts left → ReadsInTurn rest left (Err failure) → ReadsInTurn (files ++ rest) known (Err failure)
fails_on [] rest known left [] failure is fails = subst (λ (k : Option (List ℕ)). ReadsInTurn rest k (Err failure)) is fails
fails_on [] rest known left (text ∷ texts) failure none fails = absurd none
fails_on (file ∷ files) rest known left [] failure none fails = absurd none
fails_on (file ∷ files) rest known left (text ∷ texts) failure to fails =
    inr (text, to.1.0, (to.0, (to.1.1.0, fails_on files rest to.1.0 left texts failure to.1.1.1 fails)))

-- one of the first has no text
pub fails_before : (files rest : List (List ℕ × Option (List ℕ))) (known : Option (List ℕ)) (failure : Failure) → ReadsInTurn files known (Err failure) → ReadsInTurn (files ++ rest) known (Err failure)
fails_before [] rest known failure none = absurd none
fails_before (file ∷ files) rest known failure (inl lacks) = inl lacks
fails_before (file ∷ files) rest known failure (inr later) =
    inr (later.0, later.1, (later.2.0, (later.2.1.0, fails_before files rest later.1 failure later.2.1.1)))

-- at most one of them is standard input
pub once : (files : List (List ℕ × Option (List ℕ))) (known : Option (List ℕ)) (read : Result (List (List ℕ)) Failure) (twice : Bool) → twice ≡ name_input_twice files → twice ≡ false → ReadsInTurn files known read → ReadsFiles files known read
once files known read twice is single reads =
    subst (λ (b : Bool). ReadsUnless b files known read) is (subst (λ (b : Bool). ReadsUnless b files known read) (sym single) reads)

pub either : {A B C : Type 0} → (A → C) → A ⊎ B → C ⊎ B
either f (inl a) = inl (f a)
either f (inr b) = inr b

-- why there is no whole of them
pub once_or : (files : List (List ℕ × Option (List ℕ))) (known : Option (List ℕ)) (failure : Failure) (twice : Bool) → twice ≡ name_input_twice files → twice ≡ false
    → ReadsInTurn files known (Err failure) ⊎ (failure ≡ Memory) → ReadsFiles files known (Err failure) ⊎ LacksMemory files failure
once_or files known failure twice is single (inl fails) = inl (once files known (Err failure) twice is single fails)
once_or files known failure twice is single (inr lacks) = inr (lacks, sym is ∙ single)

-- the sources of files that were read
pub lent : (files : List (List ℕ × Option (List ℕ))) (known : Option (List ℕ)) (texts : List (List ℕ)) (sources : List Source) → paths_in sources ≡ map given_path files → texts_in sources ≡ texts → origins_in sources ≡ map no_origins files
    → ReadsFiles files known (Ok texts) → AreRead files known sources
lent files known texts sources paths are plain reads = record { paths = paths; texts = subst (λ (found : List (List ℕ)). ReadsFiles files known (Ok found)) (sym are) reads; plain = plain }
