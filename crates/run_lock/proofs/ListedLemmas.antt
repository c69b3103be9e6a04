-- The listed files, one more at a time.
use Rattle.std.proofs.Common.{◌≡◌, ℕ, ◌+◌, ◌<◌, List, [], ◌∷◌, ◌++◌, length, take, sym, ap, ◌∙◌, append_assoc, append-nil}
use Rattle.std.specs.Prelude.{slice_index_or}
use Rattle.std.proofs.lemmas.List.{take_more}
use Rattle.jobs_in_force.specs.declared.jobs.InForce.{InForce}
use Rattle.run_lock.specs.Listed.{file_listed, files_listed, listed_in}

files_push : (job : List ℕ) (files : List (List ℕ)) (file : List ℕ) → files_listed job (files ++ file ∷ []) ≡ files_listed job files ++ file_listed job file
files_push job [] file = append-nil (file_listed job file)
files_push job (f ∷ files) file = ap (λ ls. file_listed job f ++ ls) (files_push job files file) ∙ sym (append_assoc (file_listed job f) (files_listed job files) (file_listed job file))

pub files_next : (job : List ℕ) (files : List (List ℕ)) (i : ℕ) (file : List ℕ) → i < length files → file ≡ slice_index_or files i file → files_listed job (take (i + 1) files) ≡ files_listed job (take i files) ++ file_listed job file
files_next job files i file lt at = ap (files_listed job) (take_more files i file lt ∙ ap (λ f. take i files ++ f ∷ []) (sym at)) ∙ files_push job (take i files) file

jobs_push : (jobs : List InForce) (j : InForce) → listed_in (jobs ++ j ∷ []) ≡ listed_in jobs ++ files_listed j.job.conf.job_name j.job.conf.files
jobs_push [] j = append-nil (files_listed j.job.conf.job_name j.job.conf.files)
jobs_push (k ∷ jobs) j = ap (λ ls. files_listed k.job.conf.job_name k.job.conf.files ++ ls) (jobs_push jobs j) ∙ sym (append_assoc (files_listed k.job.conf.job_name k.job.conf.files) (listed_in jobs) (files_listed j.job.conf.job_name j.job.conf.files))

pub jobs_next : (jobs : List InForce) (i : ℕ) (j : InForce) → i < length jobs → j ≡ slice_index_or jobs i j → listed_in (take (i + 1) jobs) ≡ listed_in (take i jobs) ++ files_listed j.job.conf.job_name j.job.conf.files
jobs_next jobs i j lt at = ap listed_in (take_more jobs i j lt ∙ ap (λ (k : InForce). take i jobs ++ k ∷ []) (sym at)) ∙ jobs_push (take i jobs) j
